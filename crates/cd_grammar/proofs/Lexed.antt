-- What a lexer was fed is cut into the pieces of which it took account.
use Rattle.std.proofs.Common.{ℕ, Bool, true, false, List}
use Rattle.std.specs.Prelude.{Option, Some, None}
use Rattle.cd_lex.specs.declared.token.LexFault.{LexFault}
use Rattle.cd_lex.specs.declared.token.LexFault.TheVariants.{BadByte, Memory}
use Rattle.cd_lex.specs.declared.token.Token.{Token}
use Rattle.cd_lex.specs.Lexing.{IsAccount, IsLexing}
use Rattle.cd_lex.specs.Machine.{State}
use Rattle.cd_lex.specs.Tokens.{Piece, IsCut}
use Rattle.cd_lex.proofs.MachineAhead.{ahead_now}

account_cut : (closed : Bool) (fault : Option LexFault) (s : State) (fed : List ℕ) (pieces : List Piece) (rest : List ℕ)
    → IsAccount closed fault s fed pieces rest → IsCut fed pieces rest
account_cut false None s fed pieces rest account = ahead_now fed rest pieces account.0
account_cut false (Some (BadByte n)) s fed pieces rest account = ahead_now fed rest pieces account.0
account_cut true None s fed pieces rest account = account.0
account_cut true (Some (BadByte n)) s fed pieces rest account = account.0
account_cut closed (Some Memory) s fed pieces rest account = absurd account

pub lexed_cut : (s : State) (fed : List ℕ) (taken : List Token) (lexing : IsLexing s fed taken) → IsCut fed lexing.pieces lexing.rest
lexed_cut s fed taken lexing = account_cut s.closed s.fault s fed lexing.pieces lexing.rest lexing.account
