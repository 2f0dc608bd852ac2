-- What the states of a lexer mean, and what its calls tell of the bytes that it was fed.
use Rattle.std.specs.Prelude.{◌≡◌, ℕ, Bool, true, false, IsTrue, List, [], ◌∷◌, ◌++◌, length, Option, Some, None, Result, Ok, Err}
use Rattle.std.specs.List.{list_all}
use Rattle.cd_base.specs.Iri.{is_iri_byte}
use Rattle.cd_lex.specs.declared.token.Kind.TheVariants.{Word, Short, Node, Lang}
use Rattle.cd_lex.specs.declared.token.Token.{Token}
use Rattle.cd_lex.specs.declared.token.LexFault.{LexFault}
use Rattle.cd_lex.specs.declared.token.LexFault.TheVariants.{BadByte, Memory}
use Rattle.cd_lex.specs.declared.machine.Mode.{Mode}
use Rattle.cd_lex.specs.declared.machine.Mode.TheVariants.{Between, InComment, InWord, InLocal, InNode, InIri, InText, AfterBackslash, AfterCaret, AfterAt, InTag}
use Rattle.cd_lex.specs.Showing.{ShowsTokens, ShowsBad}
use Rattle.cd_lex.specs.Tokens.{Piece, Comment, IsKind, IsSpelled, IsPiece, IsCut, IsBad, spelled, escaped, placed, length_of, Ending, AtEnd, AtBad, HasItems}
use Rattle.cd_lex.specs.Machine.{State}

-- ---- what a state means

-- whatever follows, the text is cut into these pieces first, and the rest stands behind them
abbrev pub IsCutAhead : List ℕ → List Piece → List ℕ → Type 0
IsCutAhead fed pieces rest = (more : List ℕ) → IsCut (fed ++ more) pieces (rest ++ more)

-- the rest is the front of such a piece as the mode says, and of a name or a full IRI it is kept
abbrev pub IsUnfinished : Mode → State → List ℕ → Type 0
IsUnfinished Between s rest = (rest ≡ []) × (s.kept ≡ [])
IsUnfinished InComment s rest =
    (comment : List ℕ) × (rest ≡ spelled (Comment comment)) × IsPiece (Comment comment)
    × (s.kept ≡ [])
IsUnfinished InWord s rest = (rest ≡ s.kept) × IsKind (Word s.kept)
IsUnfinished InLocal s rest = (rest ≡ s.prefix ++ s.kept) × IsKind (Short s.prefix s.kept)
IsUnfinished InNode s rest = (rest ≡ 95 ∷ 58 ∷ s.kept) × IsKind (Node s.kept)
IsUnfinished InIri s rest = (rest ≡ 60 ∷ s.kept) × IsTrue (list_all is_iri_byte s.kept)
IsUnfinished InText s rest = (text : List ℕ) × (rest ≡ 34 ∷ escaped text) × (s.kept ≡ [])
IsUnfinished AfterBackslash s rest =
    (text : List ℕ) × (rest ≡ (34 ∷ escaped text) ++ 92 ∷ []) × (s.kept ≡ [])
IsUnfinished AfterCaret s rest = (rest ≡ 94 ∷ []) × (s.kept ≡ [])
IsUnfinished AfterAt s rest = (rest ≡ 64 ∷ []) × (s.kept ≡ [])
IsUnfinished InTag s rest = IsSpelled Lang rest × (s.kept ≡ [])

-- while something is unfinished, the lexer knows where it began
abbrev pub IsBegunAt : Mode → ℕ → ℕ → Type 0
IsBegunAt Between from n = Unit {0}
IsBegunAt InComment from n = Unit {0}
IsBegunAt other from n = from ≡ n

-- between the pieces that have ended and the bytes behind them
abbrev pub IsAccount : Bool → Option LexFault → State → List ℕ → List Piece → List ℕ → Type 0
IsAccount false None s fed pieces rest =
    IsCutAhead fed pieces rest × (s.place ≡ length fed)
    × IsBegunAt s.mode s.from (length_of pieces) × IsUnfinished s.mode s rest
IsAccount false (Some (BadByte n)) s fed pieces rest =
    IsCutAhead fed pieces rest × (n ≡ length_of pieces) × ((more : List ℕ) → IsBad (rest ++ more))
IsAccount true None s fed pieces rest = IsCut fed pieces rest × (rest ≡ [])
IsAccount true (Some (BadByte n)) s fed pieces rest =
    IsCut fed pieces rest × (n ≡ length_of pieces) × IsBad rest
IsAccount closed (Some Memory) s fed pieces rest = ⊥

-- this lexer was fed these bytes in all, has not run out of memory, and gave these tokens
pub record IsLexing (s : State) (fed : List ℕ) (taken : List Token) : Type 0 where
  pub pieces : List Piece
  pub rest : List ℕ
  pub ended : taken ++ s.tokens ≡ placed 0 pieces
  pub account : IsAccount s.closed s.fault s fed pieces rest

-- ---- what the calls tell

-- the answer of every call while this is the fault
abbrev pub answer_of : Option LexFault → Result Unit LexFault
answer_of None = Ok tt
answer_of (Some fault) = Err fault

-- the answer to these bytes, of a lexer that may be fed more
abbrev pub IsFed : Result Unit LexFault → State → List ℕ → List Token → Type 0
IsFed (Ok done) s fed taken = IsLexing s fed taken × ((n : ℕ) → ShowsBad fed n → ⊥)
IsFed (Err (BadByte n)) s fed taken = IsLexing s fed taken × ShowsBad fed n
IsFed (Err Memory) s fed taken = Unit {0}

-- the answer to the end of the input after these bytes
abbrev pub IsClosed : Result Unit LexFault → State → List ℕ → List Token → Type 0
IsClosed (Ok done) s fed taken =
    IsLexing s fed taken × HasItems fed (taken ++ s.tokens) (AtEnd (length fed))
IsClosed (Err (BadByte n)) s fed taken =
    IsLexing s fed taken × HasItems fed (taken ++ s.tokens) (AtBad n)
IsClosed (Err Memory) s fed taken = Unit {0}

-- these are the first tokens of the text: whatever follows, or where the input has ended
abbrev pub AreFirst : Bool → List ℕ → List Token → Type 0
AreFirst false fed tokens = ShowsTokens fed tokens
AreFirst true fed tokens = (later : List Token) × (ending : Ending)
    × HasItems fed (tokens ++ later) ending

-- these are all tokens before the end of the input or before a bad byte, if the lexer came to one
abbrev pub AreAll : Bool → Option LexFault → List ℕ → List Token → Type 0
AreAll false None fed tokens = Unit {0}
AreAll true None fed tokens = HasItems fed tokens (AtEnd (length fed))
AreAll closed (Some (BadByte n)) fed tokens = HasItems fed tokens (AtBad n)
AreAll closed (Some Memory) fed tokens = Unit {0}

-- the answer to a caller who wants the next token
abbrev pub IsTaken : Option Token → State → State → List ℕ → List Token → Type 0
IsTaken (Some token) before after fed taken =
    IsLexing after fed (taken ++ token ∷ []) × AreFirst before.closed fed (taken ++ token ∷ [])
IsTaken None before after fed taken =
    IsLexing after fed taken × AreAll before.closed before.fault fed taken
    × ((token : Token) → AreFirst before.closed fed (taken ++ token ∷ []) → ⊥)
