-- How a run may end, as the shell sees it.
use Rattle.std.specs.Prelude.{ℕ, Bool, true, false, ◌-◌, ◌⊎◌, List, [], ◌∷◌, ◌++◌, codes, decimal, Option, Some, None}
use Rattle.std.specs.Io.KnownBytes.{Appends}
use Rattle.cd_io.specs.Causes.{Rose}
use Rattle.cd_io.specs.Streams.{AppendsFront}
use Rattle.cd_syntax.specs.declared.refusal.Refusal.{Refusal}
use Rattle.cd_syntax.specs.declared.refusal.Refusal.TheVariants.{Syntax, Construct, Prefix, Depth, TooLong}
use Rattle.cd_syntax.specs.Constructs.{word_of}
use Rattle.cd_top.specs.declared.status.Status.{Status}
use Rattle.cd_top.specs.declared.status.Status.TheVariants.{Done, Refused, Usage, Limit, ReadFault, WriteFault, Memory}
use Rattle.cd_base.specs.declared.limit_kind.LimitKind.{LimitKind}
use Rattle.cd_base.specs.declared.limit_kind.LimitKind.TheVariants.{Contexts, Facts}

-- the number that the process ends with
abbrev pub code_of : Status → ℕ
code_of Done = 0
code_of (Refused refusal) = 1
code_of Usage = 2
code_of (Limit kind number) = 3
code_of ReadFault = 4
code_of WriteFault = 5
code_of Memory = 6

-- a line with a number
abbrev pub numbered : List ℕ → ℕ → List ℕ → List ℕ
numbered front number back = front ++ (decimal number ++ back)

abbrev pub word_or_none : Option (List ℕ) → List ℕ
word_or_none (Some word) = word
word_or_none None = []

abbrev pub construct_line : List ℕ → ℕ → List ℕ
construct_line word place = (codes "condor: construct " ++ word)
    ++ numbered (codes " at byte ") place (10 ∷ [])

-- the line of a refusal: what is wrong and at which byte, with the word of a construct
abbrev pub refusal_line : Refusal → List ℕ
refusal_line (Syntax place) = numbered (codes "condor: syntax at byte ") place (10 ∷ [])
refusal_line (Construct number place) = construct_line (word_or_none (word_of number)) place
refusal_line (Prefix place) = numbered (codes "condor: prefix at byte ") place (10 ∷ [])
refusal_line (Depth place) = numbered (codes "condor: nesting deeper than 256 at byte ") place
    (10 ∷ [])
refusal_line (TooLong came) =
    numbered (codes "condor: input longer than ") (came - 1) (codes " bytes" ++ 10 ∷ [])

-- the line of a maximum: which was reached, and the count that has reached it
abbrev pub limit_line : LimitKind → ℕ → List ℕ
limit_line Contexts number = numbered (codes "condor: limit on contexts reached at ") number
    (10 ∷ [])
limit_line Facts number = numbered (codes "condor: limit on facts reached at ") number (10 ∷ [])

-- the line that the status puts on the notes
abbrev pub line_of : Status → List ℕ
line_of Done = []
line_of (Refused refusal) = refusal_line refusal
line_of Usage = codes
    "condor: usage: condor classify|trial n [--workers n] [--cells n] [--max-contexts n] [--max-facts n]" ++ 10 ∷ []
line_of (Limit kind number) = limit_line kind number
line_of ReadFault = codes "condor: reading failed" ++ 10 ∷ []
line_of WriteFault = codes "condor: writing failed" ++ 10 ∷ []
line_of Memory = codes "condor: out of memory" ++ 10 ∷ []

-- the status comes before anything is written
abbrev pub IsEarly : Status → Type 0
IsEarly Done = ⊥
IsEarly (Refused refusal) = Unit {0}
IsEarly Usage = Unit {0}
IsEarly (Limit kind number) = Unit {0}
IsEarly ReadFault = Unit {0}
IsEarly WriteFault = ⊥
IsEarly Memory = Unit {0}

-- the line is on the notes, or a front of it where the count of their faults rose
abbrev pub IsNoted : Option (List ℕ) → Option (List ℕ) → ℕ → ℕ → List ℕ → Type 0
IsNoted old new before now line =
    Appends old new line ⊎ (AppendsFront old new line × Rose before now)

-- its line has no number
abbrev pub has_fixed_line : Status → Bool
has_fixed_line (Refused refusal) = false
has_fixed_line (Limit kind number) = false
has_fixed_line status = true
