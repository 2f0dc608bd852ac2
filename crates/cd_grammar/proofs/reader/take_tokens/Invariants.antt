use Rattle.std.proofs.Common.{◌≡◌, ℕ, List, length}
use Rattle.cd_lex.specs.declared.token.Token.{Token}
use Rattle.cd_grammar.specs.Taking.{Takes}
use Rattle.cd_grammar.proofs.reader.take_tokens.Given as goal

abbrev pub invariant-loop-token : goal.invariant-loop-token
invariant-loop-token l =
    ((fed : List ℕ) (taken : List Token) → Takes l.fn.lexer l.fn.parser fed taken → (all : List Token) × Takes l.lexer l.parser fed all)
    × (l.lexer.closed ≡ l.fn.lexer.closed)
    × (l.lexer.fault ≡ l.fn.lexer.fault)
    × (l.lexer.place ≡ l.fn.lexer.place)

abbrev pub decreases-loop-token : goal.decreases-loop-token
decreases-loop-token l = length l.lexer.tokens
