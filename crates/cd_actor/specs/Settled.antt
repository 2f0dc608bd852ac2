-- What the cells of a run keep, and what they have come to where nothing pends.
use Rattle.std.specs.Prelude.{ℕ, List}
use Rattle.cd_actor.specs.Meaning.{Meaning}
use Rattle.cd_actor.specs.Cells.{At, AreCells, AreOf, Had, HadOrPends}

-- what was had is had
abbrev pub KeepsHad : {A M : Type 0} → Meaning A M → List A → List A → Type 0
KeepsHad {A} {M} g cells cells_new = (x : ℕ × M) → Had g cells x → Had g cells_new x

-- the cells stay of the family that they are of
abbrev pub KeepsFamily : {A M : Type 0} → Meaning A M → List A → List A → Type 0
KeepsFamily g cells cells_new = (f : g.Family) → AreOf g f cells → AreOf g f cells_new

-- what cells with these messages have come to where nothing pends
pub record IsSettled {A M : Type 0} (g : Meaning A M) (cells : List A) (pending : List (ℕ × M))
    (after : List A) : Type 0 where
  pub are_cells : AreCells g after
  pub family : KeepsFamily g cells after
  -- each message that was had or pended is had
  pub had : (x : ℕ × M) → HadOrPends g cells pending x → Had g after x
  -- each message that is owed is had
  pub owed : (i : ℕ) (a : A) → At after i a → (p : ℕ) (m : M) → g.owes a p m → Had g after (p, m)
