-- What the calls of a reader tell of the bytes that it was fed.
use Rattle.std.specs.Prelude.{◌≡◌, ℕ, ◌≤◌, false, List, [], ◌∷◌, length, Option, Some, None, Result, Ok, Err, All}
use Rattle.std.specs.List.{fold}
use Rattle.cd_base.specs.Iri.{IsIri}
use Rattle.cd_meaning.specs.declared.document.Document.{Document}
use Rattle.cd_lex.specs.declared.token.Token.{Token}
use Rattle.cd_lex.specs.Lexing.{IsLexing}
use Rattle.cd_syntax.specs.declared.cause.Cause.{Cause}
use Rattle.cd_syntax.specs.declared.item.Item.{Item}
use Rattle.cd_grammar.specs.declared.parser.Parser.{Parser}
use Rattle.cd_grammar.specs.declared.reader.Reader.{Reader}
use Rattle.cd_syntax.specs.declared.refusal.Refusal.{Refusal}
use Rattle.cd_grammar.specs.declared.symbol.Symbol.{Symbol}
use Rattle.cd_grammar.specs.Causes.{cause_of, Standing, Going, Stopped, stand_after}
use Rattle.cd_syntax.specs.Bounds.{IsSmall}
use Rattle.cd_syntax.specs.Grammar.{IsRead, IsOnly, begun}
use Rattle.cd_grammar.specs.Machine.{State}
use Rattle.cd_syntax.specs.Items.{placed_items}
use Rattle.cd_syntax.specs.Refusal.{IsFaulty, IsUnread}

-- ---- what a reader means

abbrev pub standing : Parser → Standing
standing parser = elim parser.stopped
    [ Some refusal ↦ Stopped refusal | None ↦ Going parser.known parser.stack ]

abbrev pub started : Standing
started = Going begun (Symbol.Document ∷ [])

-- the reader was fed these bytes in all, and the input has not ended
pub record IsReading (reader : Reader) (fed : List ℕ) : Type 0 where
  pub taken : List Token
  pub lexing : IsLexing reader.lexer fed taken
  pub stands : standing reader.parser ≡ fold stand_after started (placed_items taken)
  pub unclosed : reader.lexer.closed ≡ false
  pub place : reader.lexer.place ≤ length fed

-- what a reader answers at the end of these bytes
abbrev pub IsFinished : List ℕ → Result Document Refusal → Type 0
IsFinished fed (Ok document) =
    IsRead fed document × IsOnly fed document × IsSmall (length fed) document
    × All IsIri document.classes
IsFinished fed (Err refusal) = IsFaulty fed refusal × IsUnread fed

-- ---- one item

-- what a parser says of an item that leads to this state, if it can be taken
abbrev pub IsTried : Option State → Parser → Parser → Item → Option Cause → Type 0
IsTried (Some state) before after item found =
    (found ≡ None) × (after.known ≡ state.0) × (after.stack ≡ state.1)
    × (after.stopped ≡ before.stopped)
IsTried None before after item found =
    (found ≡ Some (cause_of before.known before.stack item)) × (after.stopped ≡ before.stopped)
