-- The form of the command words, and what they ask.
use Rattle.std.specs.Prelude.{◌≡◌, ◌≤◌, ℕ, Bool, false, ◌&&◌, if◌then◌else◌, nat_le, List, [], ◌∷◌, ◌++◌, length, codes, Option, Some, None}
use Rattle.std.specs.Str.{bytes_eq, all_ascii_digits}
use Rattle.std.specs.Str.Parse.{digits_value}
use Rattle.cd_base.specs.declared.limits.Limits.{Limits}
use Rattle.cd_words.specs.declared.request.Command.{Command}
use Rattle.cd_words.specs.declared.request.Command.TheVariants.{Classify, Trial}
use Rattle.cd_words.specs.declared.setting.Setting.{Setting}
use Rattle.cd_words.specs.declared.setting.Setting.TheVariants.{Workers, Cells, MaxContexts, MaxFacts}

abbrev pub Bytes : Type 0
Bytes = List ℕ

-- ---- numerals

-- the first is an ASCII digit other than 0
abbrev pub begins_above_zero : Bytes → Bool
begins_above_zero [] = false
begins_above_zero (d ∷ more) = nat_le 49 d && nat_le d 57

-- a numeral: 1 to 10 ASCII digits, the first not 0
abbrev pub is_numeral : Bytes → Bool
is_numeral text = nat_le (length text) 10 && (begins_above_zero text && all_ascii_digits text)

-- the number of a numeral
abbrev pub numeral : Bytes → Option ℕ
numeral text = if is_numeral text then Some (digits_value 10 text) else None

-- ---- the parts of the words

-- the name of the limit that an option sets
abbrev pub limit : Setting → Bytes
limit Workers = codes "workers"
limit Cells = codes "cells"
limit MaxContexts = codes "max-contexts"
limit MaxFacts = codes "max-facts"

-- the name of an option
abbrev pub name : Setting → Bytes
name option = codes "--" ++ limit option

-- an option and its numeral as two words, the same as one word, or a word on its own
pub data Part : Type 0 where
  apart : Setting → Bytes → Part
  joined : Setting → Bytes → Part
  alone : Bytes → Part

abbrev pub spelling : Part → List Bytes
spelling (apart option value) = name option ∷ value ∷ []
spelling (joined option value) = (name option ++ (codes "=" ++ value)) ∷ []
spelling (alone word) = word ∷ []

-- the words that the parts spell
abbrev pub words_of : List Part → List Bytes
words_of [] = []
words_of (part ∷ more) = spelling part ++ words_of more

-- ---- what the parts ask

-- the value that a part gives an option
abbrev pub given : Setting → Setting → Bytes → List Bytes
given option other value = if bytes_eq (name other) (name option) then value ∷ [] else []

-- the values that are given to an option, in order
abbrev pub values : Setting → List Part → List Bytes
values option [] = []
values option (apart other value ∷ more) = given option other value ++ values option more
values option (joined other value ∷ more) = given option other value ++ values option more
values option (alone word ∷ more) = values option more

-- the words on their own, in order
abbrev pub own_words : List Part → List Bytes
own_words [] = []
own_words (alone word ∷ more) = word ∷ own_words more
own_words (other ∷ more) = own_words more

-- the limit where an option isn't given
abbrev pub usual_limit : Setting → ℕ
usual_limit Workers = 4
usual_limit Cells = 256
usual_limit MaxContexts = 1000000
usual_limit MaxFacts = 10000000

-- the number that the values of an option come to: an option is given at most once, and its value is a numeral
abbrev pub asked_number : ℕ → List Bytes → Option ℕ
asked_number usual [] = Some usual
asked_number usual (value ∷ []) = numeral value
asked_number usual more = None

-- `classify`, or `trial` and a numeral from 1 to 20,000
abbrev pub IsCommand : List Bytes → Command → Type 0
IsCommand words Classify = words ≡ codes "classify" ∷ []
IsCommand words (Trial n) = (value : Bytes) × (words ≡ codes "trial" ∷ value ∷ []) × (numeral value ≡ Some n) × (n ≤ 20000)

-- the words ask for the command under these limits, which are in their ranges by their type. No word but the options begins with a hyphen,
-- since no command has such a word
pub record Asks (words : List Bytes) (request : Command) (limits : Limits) : Type 0 where
  pub parts : List Part
  pub spelled : words ≡ words_of parts
  pub command : IsCommand (own_words parts) request
  pub workers : asked_number (usual_limit Workers) (values Workers parts) ≡ Some limits.workers
  pub cells : asked_number (usual_limit Cells) (values Cells parts) ≡ Some limits.cells
  pub max_contexts : asked_number (usual_limit MaxContexts) (values MaxContexts parts) ≡ Some limits.max_contexts
  pub max_facts : asked_number (usual_limit MaxFacts) (values MaxFacts parts) ≡ Some limits.max_facts
  pub max_bytes : limits.max_bytes ≡ 268435456

-- the limits have the same numbers
pub record HaveSameNumbers (one other : Limits) : Type 0 where
  pub workers : one.workers ≡ other.workers
  pub cells : one.cells ≡ other.cells
  pub max_contexts : one.max_contexts ≡ other.max_contexts
  pub max_facts : one.max_facts ≡ other.max_facts
  pub max_bytes : one.max_bytes ≡ other.max_bytes

-- the words ask for nothing else
abbrev pub AsksOnly : List Bytes → Command → Limits → Type 0
AsksOnly words request limits = (other : Command) → (others : Limits) → Asks words other others → (other ≡ request) × HaveSameNumbers others limits

-- the words are of the form: they ask for something
abbrev pub IsOfForm : List Bytes → Type 0
IsOfForm words = (command : Command) × (limits : Limits) × Asks words command limits
