-- The lexer as a machine that takes a byte at a time. Public clauses don't speak of its steps: `Lexing` says what its states mean.
use Rattle.std.specs.Prelude.{◌≡◌, ◌⊎◌, ℕ, ◌+◌, Bool, true, false, ◌||◌, ◌==◌, if◌then◌else◌, is_some, List, [], ◌∷◌, ◌++◌, Option, Some, None}
use Rattle.std.specs.List.{fold}
use Rattle.cd_base.specs.Iri.{is_iri_byte}
use Rattle.cd_lex.specs.declared.token.Kind.{Kind}
use Rattle.cd_lex.specs.declared.token.Kind.TheVariants.{Opening, Closing, Equals, Carets, Word, Short, Node, FullIri, Quoted, Lang}
use Rattle.cd_lex.specs.declared.token.Token.{Token}
use Rattle.cd_lex.specs.declared.token.LexFault.{LexFault}
use Rattle.cd_lex.specs.declared.token.LexFault.TheVariants.{BadByte, Memory}
use Rattle.cd_lex.specs.declared.machine.Mode.{Mode}
use Rattle.cd_lex.specs.declared.machine.Mode.TheVariants.{Between, InComment, InWord, InLocal, InNode, InIri, InText, AfterBackslash, AfterCaret, AfterAt, InTag}
use Rattle.cd_lex.specs.Tokens.{is_blank, is_letter, is_name_byte, is_lang_byte, ends_line}

-- A lexer as contracts see it.
pub record State : Type 0 where
  -- what the bytes behind the last ended piece are the front of
  pub mode : Mode
  -- the prefix of a short name, with its colon
  pub prefix : List ℕ
  -- the bytes of the unfinished token, as the token will hold them: none of a string or a language tag
  pub kept : List ℕ
  -- how many bytes stand before the unfinished token
  pub from : ℕ
  -- how many bytes were taken
  pub place : ℕ
  -- the ended tokens that wait to be taken
  pub tokens : List Token
  -- no byte may follow
  pub closed : Bool
  pub fault : Option LexFault

abbrev pub start : State
start = record {
  mode = Between;
  prefix = [];
  kept = [];
  from = 0;
  place = 0;
  tokens = [];
  closed = false;
  fault = None;
}

-- what no move changes, not even one that runs out of memory
abbrev pub IsBeside : State → State → Type 0
IsBeside before after = (after.place ≡ before.place) × (after.closed ≡ before.closed)

-- ---- moves

-- something begins at the next byte
abbrev pub begin : Mode → State → State
begin mode s = record s { mode = mode; from = s.place }

abbrev pub turn : Mode → State → State
turn mode s = record s { mode = mode }

abbrev pub keep : ℕ → State → State
keep b s = record s { kept = s.kept ++ b ∷ [] }

abbrev pub without_kept : State → State
without_kept s = record s { kept = [] }

abbrev pub without_prefix : State → State
without_prefix s = record s { prefix = [] }

-- the unfinished token has ended and is this
abbrev pub end : Kind → State → State
end kind s = record s {
  mode = Between;
  tokens = s.tokens ++ record { kind = kind; place = s.from } ∷ [];
}

-- what was begun is the front of no token
abbrev pub refuse : State → State
refuse s = record s { fault = Some (BadByte s.from) }

abbrev pub end_word : State → State
end_word s = end (Word s.kept) (without_kept s)

abbrev pub end_short : State → State
end_short s = end (Short s.prefix s.kept) (without_prefix (without_kept s))

abbrev pub end_node : State → State
end_node s = end (Node s.kept) (without_kept s)

abbrev pub end_iri : State → State
end_iri s = end (FullIri s.kept) (without_kept s)

-- the first colon of a name: a node's after a single `_`, or the end of a prefix
abbrev pub is_underscore : List ℕ → Bool
is_underscore [] = false
is_underscore (b ∷ []) = b == 95
is_underscore (b ∷ c ∷ more) = false

abbrev pub begin_node : State → State
begin_node s = record s { mode = InNode; kept = [] }

abbrev pub begin_local : State → State
begin_local s = record s { mode = InLocal; prefix = s.kept ++ 58 ∷ []; kept = [] }

abbrev pub take_colon : State → State
take_colon s = if is_underscore s.kept then begin_node s else begin_local s

-- ---- one byte, by mode

-- a token of this byte alone
abbrev pub single : Kind → State → State
single kind s = end kind (begin Between s)

-- a byte that begins a longer piece, or none
unfoldable pub take_sign : ℕ → State → State
take_sign b s =
    if b == 35 then begin InComment s else
    (if b == 60 then begin InIri s else
    (if b == 34 then begin InText s else
    (if b == 94 then begin AfterCaret s else
    (if b == 64 then begin AfterAt s else
    refuse (begin Between s)))))

unfoldable pub take_mark : ℕ → State → State
take_mark b s =
    if b == 40 then single Opening s else
    (if b == 41 then single Closing s else
    (if b == 61 then single Equals s else
    take_sign b s))

unfoldable pub take_between : ℕ → State → State
take_between b s =
    if b == 58 then begin_local (begin Between s) else
    (if is_name_byte b then keep b (begin InWord s) else
    (if is_blank b then turn Between s else
    take_mark b s))

unfoldable pub take_in_comment : ℕ → State → State
take_in_comment b s = if ends_line b then take_between b s else s

unfoldable pub take_in_word : ℕ → State → State
take_in_word b s = if b == 58 then take_colon
    s else (if is_name_byte b then keep b s else take_between b (end_word s))

unfoldable pub take_in_local : ℕ → State → State
take_in_local b s = if is_name_byte b then keep b s else take_between b (end_short s)

unfoldable pub take_in_node : ℕ → State → State
take_in_node b s = if is_name_byte b then keep b s else take_between b (end_node s)

abbrev pub is_empty : List ℕ → Bool
is_empty [] = true
is_empty (b ∷ more) = false

unfoldable pub take_in_iri : ℕ → State → State
take_in_iri b s =
    if is_iri_byte b then keep b
    s else (if is_empty s.kept then refuse s else (if b == 62 then end_iri s else refuse s))

unfoldable pub take_in_text : ℕ → State → State
take_in_text b s = if b == 34 then end Quoted s else (if b == 92 then turn AfterBackslash s else s)

unfoldable pub take_after_backslash : ℕ → State → State
take_after_backslash b s = if b == 34 || b == 92 then turn InText s else refuse s

unfoldable pub take_after_caret : ℕ → State → State
take_after_caret b s = if b == 94 then end Carets s else refuse s

unfoldable pub take_after_at : ℕ → State → State
take_after_at b s = if is_letter b then turn InTag s else refuse s

unfoldable pub take_in_tag : ℕ → State → State
take_in_tag b s = if is_lang_byte b then s else take_between b (end Lang s)

abbrev pub take_by : Mode → ℕ → State → State
take_by Between = take_between
take_by InComment = take_in_comment
take_by InWord = take_in_word
take_by InLocal = take_in_local
take_by InNode = take_in_node
take_by InIri = take_in_iri
take_by InText = take_in_text
take_by AfterBackslash = take_after_backslash
take_by AfterCaret = take_after_caret
take_by AfterAt = take_after_at
take_by InTag = take_in_tag

-- ---- whole runs

abbrev pub count : State → State
count s = record s { place = s.place + 1 }

unfoldable pub step : State → ℕ → State
step s b = if is_some s.fault then s else count (take_by s.mode b s)

-- these bytes in turn
abbrev pub run : State → List ℕ → State
run = fold step

-- the lexer is in this state, or it ran out of memory
abbrev pub IsRun : State → State → Type 0
IsRun after s = (s ≡ after) ⊎ (s.fault ≡ Some Memory)

-- the first token that waits was taken, if one waits
abbrev pub IsPopped : Option Token → State → State → Type 0
IsPopped (Some token) before after = before ≡ record after { tokens = token ∷ after.tokens }
IsPopped None before after = (after ≡ before) × (before.tokens ≡ [])

-- the input has ended here
abbrev pub finish_by : Mode → State → State
finish_by Between s = s
finish_by InComment s = s
finish_by InWord s = end_word s
finish_by InLocal s = end_short s
finish_by InNode s = end_node s
finish_by InIri s = refuse s
finish_by InText s = refuse s
finish_by AfterBackslash s = refuse s
finish_by AfterCaret s = refuse s
finish_by AfterAt s = refuse s
finish_by InTag s = end Lang s

abbrev pub close : State → State
close s = record s { closed = true }

unfoldable pub closing : State → State
closing s = if s.closed || is_some s.fault then close s else close (finish_by s.mode s)
