-- What the calls of a source and of a sink do.
use Rattle.std.specs.Prelude.{◌≡◌, ℕ, ◌<◌, ◌≤◌, Bool, false, ◌==◌, List, length, take, Result, Ok, Err, Option, OnOk, IfOk}
use Rattle.std.specs.Io.KnownBytes.{Appends, Consumes}

-- whether a read answered that there are no more bytes
abbrev pub answers_none : {E : Type 0} → Result ℕ E → Bool
answers_none (Ok n) = n == 0
answers_none (Err e) = false

-- a read of a non-empty buffer tells whether it was the end
abbrev pub TellsEnd : {E : Type 0} → List ℕ → Result ℕ E → Bool → Type 0
TellsEnd buf result ended = 0 < length buf → ended ≡ answers_none result

-- a read of an empty buffer tells nothing of the end
abbrev pub KeepsEnd : List ℕ → Bool → Bool → Type 0
KeepsEnd buf old new = length buf ≡ 0 → new ≡ old

-- a write of a non-empty piece takes some of it
abbrev pub TakesSome : {E : Type 0} → List ℕ → Result ℕ E → Type 0
TakesSome piece result = 0 < length piece → IfOk result (λ n. 0 < n)

-- known bytes grow by a front of the piece
abbrev pub AppendsFront : Option (List ℕ) → Option (List ℕ) → List ℕ → Type 0
AppendsFront old new piece = (n : ℕ) × Appends old new (take n piece)

-- known bytes grow by some of the piece, but not by all of it
abbrev pub AppendsPart : Option (List ℕ) → Option (List ℕ) → List ℕ → Type 0
AppendsPart old new piece = (n : ℕ) × (n < length piece) × Appends old new (take n piece)

-- a read that answers Ok leaves what stands behind
abbrev pub KeepsAtOk : {E : Type 0} → Option (List ℕ) → Option (List ℕ) → Result ℕ E → Type 0
KeepsAtOk old new result = OnOk result (new ≡ old)

-- known bytes lose at most so many, from the front
abbrev pub LosesAtMost : Option (List ℕ) → Option (List ℕ) → ℕ → Type 0
LosesAtMost old new most = (taken : List ℕ) × Consumes old new taken × (length taken ≤ most)
