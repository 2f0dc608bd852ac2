-- What the lexer and the parser of a reader mean together.
use Rattle.std.specs.Prelude.{◌≡◌, ◌≤◌, ℕ, List, [], length, Option, Some, None, IfSome}
use Rattle.std.specs.List.{fold}
use Rattle.std.specs.Io.KnownBytes.{Consumes}
use Rattle.cd_lex.specs.declared.token.LexFault.{LexFault}
use Rattle.cd_lex.specs.declared.token.LexFault.TheVariants.{BadByte, Memory}
use Rattle.cd_lex.specs.declared.token.Token.{Token}
use Rattle.cd_lex.specs.Lexing.{IsLexing, AreAll}
use Rattle.cd_lex.specs.Machine.{State}
use Rattle.cd_lex.specs.Tokens.{HasItems, Ending, AtEnd, AtBad}
use Rattle.cd_grammar.specs.declared.parser.Parser.{Parser}
use Rattle.cd_grammar.specs.declared.reader.Reader.{Reader}
use Rattle.cd_grammar.specs.Causes.{stand_after}
use Rattle.cd_syntax.specs.Items.{PlacedItem, placed_items, last_item, all_of}
use Rattle.cd_grammar.specs.Reading.{IsReading, standing, started}

-- the lexer was fed these bytes in all and gave these tokens, and the parser took them
pub record Takes (lexer : State) (parser : Parser) (fed : List ℕ)
    (taken : List Token) : Type 0 where
  pub lexing : IsLexing lexer fed taken
  pub stands : standing parser ≡ fold stand_after started (placed_items taken)

-- and no further token has ended
abbrev pub TakesAll : State → Parser → List ℕ → Type 0
TakesAll lexer parser fed = (taken : List Token) × Takes lexer parser fed taken
    × AreAll lexer.closed lexer.fault fed taken

-- what ends the items of a text of n bytes, where a closed lexer has this fault
abbrev pub IsLast : Option LexFault → ℕ → PlacedItem → Type 0
IsLast None n placed = placed ≡ last_item (AtEnd n)
IsLast (Some (BadByte place)) n placed = placed ≡ last_item (AtBad place)
IsLast (Some Memory) n placed = ⊥

-- the parser took all items of the text
abbrev pub TakesText : Parser → List ℕ → Type 0
TakesText parser fed =
    (taken : List Token) × (ending : Ending) × HasItems fed taken ending
    × (standing parser ≡ fold stand_after started (all_of taken ending))

-- the reader was fed n bytes, and a source lost these
abbrev pub IsFedFrom : Option (List ℕ) → Option (List ℕ) → Reader → ℕ → Type 0
IsFedFrom left later reader n =
    (fed : List ℕ) × IsReading reader fed × Consumes left later fed × (length fed ≡ n)

-- the reader was fed all that a source had left, which are so many bytes at most
abbrev pub IsFedWhole : Option (List ℕ) → Option (List ℕ) → Reader → ℕ → Type 0
IsFedWhole left later reader most =
    (fed : List ℕ) × IsReading reader fed × (length fed ≤ most)
    × IfSome left (λ input. (fed ≡ input) × (later ≡ Some []))
