-- What cells owe each other and have not.
use Rattle.std.specs.Prelude.{◌≡◌, ◌↔◌, ℕ, List, [], ◌∷◌, ◌++◌}
use Rattle.cd_base.specs.Lists.{OneOf, HasNoRepeats}
use Rattle.cd_actor.specs.Meaning.{Meaning}
use Rattle.cd_actor.specs.Cells.{Had}

-- a part of the messages, each once: those that their cells have not
pub record IsNotHadOf {A M : Type 0} (g : Meaning A M) (cells : List A)
    (messages part : List (ℕ × M)) : Type 0 where
  pub apart : HasNoRepeats part
  pub are : (x : ℕ × M) → OneOf x part ↔ (OneOf x messages × (Had g cells x → ⊥))

-- what one cell owes and its addressee has not, each once
pub record IsOwedOf {A M : Type 0} (g : Meaning A M) (cells : List A) (a : A)
    (part : List (ℕ × M)) : Type 0 where
  pub apart : HasNoRepeats part
  pub are : (x : ℕ × M) → OneOf x part ↔ (g.owes a x.0 x.1 × (Had g cells x → ⊥))

-- what each of the second cells owes and its addressee among the first has not, one cell after another
abbrev pub IsOwedInTurn : {A M : Type 0} → Meaning A M → List A → List A → List (ℕ × M) → Type 0
IsOwedInTurn g cells [] more = more ≡ []
IsOwedInTurn {A} {M} g cells (a ∷ rest) more =
    (part tail : List (ℕ × M)) × (more ≡ part ++ tail) × IsOwedOf g cells a part
    × IsOwedInTurn g cells rest tail
