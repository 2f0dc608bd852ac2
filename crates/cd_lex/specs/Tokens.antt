-- The tokens of a text: Structural Specification, sections 2.2 to 2.4, in the profile of this project, which takes bytes above 127 unchecked.
use Rattle.std.specs.Prelude.{◌≡◌, ◌≢◌, ◌⊎◌, ℕ, ◌+◌, Bool, false, not, ◌&&◌, ◌||◌, ◌==◌, if◌then◌else◌, nat_le, nat_lt, IsTrue, List, [], ◌∷◌, ◌++◌, length}
use Rattle.std.specs.List.{list_all}
use Rattle.cd_base.specs.Iri.{IsIri}
use Rattle.cd_lex.specs.declared.token.Kind.{Kind}
use Rattle.cd_lex.specs.declared.token.Kind.TheVariants.{Opening, Closing, Equals, Carets, Word, Short, Node, FullIri, Quoted, Lang}
use Rattle.cd_lex.specs.declared.token.Token.{Token}

-- ---- bytes

abbrev pub is_blank : ℕ → Bool
is_blank b = b == 32 || b == 9 || b == 10 || b == 13

abbrev pub is_between : ℕ → ℕ → ℕ → Bool
is_between low high b = nat_le low b && nat_le b high

-- an ASCII letter
abbrev pub is_letter : ℕ → Bool
is_letter b = is_between 65 90 b || is_between 97 122 b

-- an ASCII letter or digit, one of `_`, `-`, `.`, `%`, `:`, or a byte above 127
abbrev pub is_name_byte : ℕ → Bool
is_name_byte b = is_letter b || is_between 48 57 b || b == 95 || b == 45 || b == 46 || b == 37 || b == 58 || nat_lt 127 b

abbrev pub is_word_byte : ℕ → Bool
is_word_byte b = is_name_byte b && not (b == 58)

-- an ASCII letter or digit, or `-`
abbrev pub is_lang_byte : ℕ → Bool
is_lang_byte b = is_letter b || is_between 48 57 b || b == 45

-- a line feed or a carriage return
abbrev pub ends_line : ℕ → Bool
ends_line b = b == 10 || b == 13

-- ---- what stands between two places of a text

pub data Piece : Type 0 where
  Blank : ℕ → Piece
  Comment : List ℕ → Piece
  -- a token of this kind, and its bytes
  Lexeme : Kind → List ℕ → Piece

-- each `"` and `\` with a `\` before it
abbrev pub escaped : List ℕ → List ℕ
escaped [] = []
escaped (b ∷ more) = if b == 34 || b == 92 then 92 ∷ b ∷ escaped more else b ∷ escaped more

abbrev pub spelled : Piece → List ℕ
spelled (Blank b) = b ∷ []
spelled (Comment c) = 35 ∷ c
spelled (Lexeme kind bytes) = bytes

-- the text is not empty, and its first byte passes
abbrev pub begins : (ℕ → Bool) → List ℕ → Bool
begins test [] = false
begins test (b ∷ more) = test b

-- a prefix: word bytes other than a single `_`, and a colon
abbrev pub IsPrefixName : List ℕ → Type 0
IsPrefixName p = (w : List ℕ) × (p ≡ w ++ 58 ∷ []) × (w ≢ 95 ∷ []) × IsTrue (list_all is_word_byte w)

abbrev pub IsKind : Kind → Type 0
IsKind (Word w) = (w ≢ []) × IsTrue (list_all is_word_byte w)
IsKind (Short p l) = IsPrefixName p × IsTrue (list_all is_name_byte l)
IsKind (Node l) = IsTrue (list_all is_name_byte l)
IsKind (FullIri i) = IsIri i
IsKind other = Unit {0}

-- these bytes are a token of this kind: the ones that the kind tells, any string, or any language tag
abbrev pub IsSpelled : Kind → List ℕ → Type 0
IsSpelled Opening bytes = bytes ≡ 40 ∷ []
IsSpelled Closing bytes = bytes ≡ 41 ∷ []
IsSpelled Equals bytes = bytes ≡ 61 ∷ []
IsSpelled Carets bytes = bytes ≡ 94 ∷ 94 ∷ []
IsSpelled (Word w) bytes = bytes ≡ w
IsSpelled (Short p l) bytes = bytes ≡ p ++ l
IsSpelled (Node l) bytes = bytes ≡ 95 ∷ 58 ∷ l
IsSpelled (FullIri i) bytes = bytes ≡ 60 ∷ i ++ 62 ∷ []
IsSpelled Quoted bytes = (s : List ℕ) × (bytes ≡ 34 ∷ escaped s ++ 34 ∷ [])
IsSpelled Lang bytes = (t : List ℕ) × (bytes ≡ 64 ∷ t) × IsTrue (begins is_letter t) × IsTrue (list_all is_lang_byte t)

abbrev pub IsPiece : Piece → Type 0
IsPiece (Blank b) = IsTrue (is_blank b)
IsPiece (Comment c) = IsTrue (list_all (λ b. not (ends_line b)) c)
IsPiece (Lexeme kind bytes) = IsKind kind × IsSpelled kind bytes

-- with this behind it, no longer piece begins where this one does
abbrev pub IsLongestKind : Kind → List ℕ → Type 0
IsLongestKind (Word w) rest = begins is_name_byte rest ≡ false
IsLongestKind (Short p l) rest = begins is_name_byte rest ≡ false
IsLongestKind (Node l) rest = begins is_name_byte rest ≡ false
IsLongestKind Lang rest = begins is_lang_byte rest ≡ false
IsLongestKind other rest = Unit {0}

abbrev pub IsLongest : Piece → List ℕ → Type 0
IsLongest (Blank b) rest = Unit {0}
IsLongest (Comment c) rest = (rest ≡ []) ⊎ IsTrue (begins ends_line rest)
IsLongest (Lexeme kind bytes) rest = IsLongestKind kind rest

-- the text begins with this piece, and the rest stands behind it
pub record BeginsWith (bytes : List ℕ) (piece : Piece) (rest : List ℕ) : Type 0 where
  pub split : bytes ≡ spelled piece ++ rest
  pub is_piece : IsPiece piece
  pub is_longest : IsLongest piece rest

-- the text is these pieces in turn, and then the rest
abbrev pub IsCut : List ℕ → List Piece → List ℕ → Type 0
IsCut bytes [] rest = bytes ≡ rest
IsCut bytes (piece ∷ more) rest = (behind : List ℕ) × BeginsWith bytes piece behind × IsCut behind more rest

-- a byte at which no piece begins
abbrev pub IsBad : List ℕ → Type 0
IsBad bytes = (bytes ≢ []) × ((piece : Piece) (rest : List ℕ) → BeginsWith bytes piece rest → ⊥)

-- the kinds of the tokens among pieces
abbrev pub kinds : List Piece → List Kind
kinds [] = []
kinds (Lexeme kind bytes ∷ more) = kind ∷ kinds more
kinds (other ∷ more) = kinds more

-- ---- the items of a text

-- the tokens among pieces, each with its place
abbrev pub placed : ℕ → List Piece → List Token
placed at [] = []
placed at (Blank b ∷ more) = placed (at + 1) more
placed at (Comment c ∷ more) = placed (at + length (spelled (Comment c))) more
placed at (Lexeme kind bytes ∷ more) = record { kind = kind; place = at } ∷ placed (at + length bytes) more

abbrev pub length_of : List Piece → ℕ
length_of [] = 0
length_of (piece ∷ more) = length (spelled piece) + length_of more

-- how the items of a text end: with its end, or with a bad byte
pub data Ending : Type 0 where
  AtEnd : ℕ → Ending
  AtBad : ℕ → Ending

-- the text has these tokens, and ends so: each token is the longest at its place, and the end or the first bad byte is the last item
abbrev pub HasItems : List ℕ → List Token → Ending → Type 0
HasItems bytes tokens (AtEnd n) = (pieces : List Piece) × IsCut bytes pieces [] × (tokens ≡ placed 0 pieces) × (n ≡ length bytes)
HasItems bytes tokens (AtBad n) = (pieces : List Piece) × (rest : List ℕ) × IsCut bytes pieces rest × IsBad rest × (tokens ≡ placed 0 pieces) × (n ≡ length_of pieces)
