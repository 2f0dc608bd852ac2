-- What contracts see of a core, and what a core keeps: cells of one family, and the messages that pend.
use Rattle.std.specs.Prelude.{◌≡◌, ℕ, false, Bool, List}
use Rattle.cd_actor.specs.Meaning.{Meaning}
use Rattle.cd_actor.specs.Cells.{AreCells, AreAllLawful, HadOrPends, IsOwedCovered, total}

-- the cells, the messages that pend, and whether a delivery has wanted for memory
pub record CoreState (A M : Type 0) : Type 0 where
  pub cells : List A
  pub pending : List (ℕ × M)
  pub failed : Bool

-- each message that pends is lawful for its cell, and each that is owed is had or pends
pub record Runs {A M : Type 0} (g : Meaning A M) (cells : List A)
    (pending : List (ℕ × M)) : Type 0 where
  pub cells_ok : AreCells g cells
  pub lawful : AreAllLawful g cells pending
  pub owed : IsOwedCovered g cells pending

-- what was had or pended is had or pends
abbrev pub KeepsAll : {A M : Type 0} → Meaning A M → List A → List (ℕ × M) → List A → List (ℕ × M)
    → Type 0
KeepsAll {A} {M} g cells pending cells_new pending_new = (x : ℕ × M) → HadOrPends g cells pending x
    → HadOrPends g cells_new pending_new x

-- a core is so, with the two sums, until a delivery has wanted for memory
pub record IsSound {A M : Type 0} (g : Meaning A M) (cells : List A) (pending : List (ℕ × M))
    (contexts facts : ℕ) (failed : Bool) : Type 0 where
  pub runs : failed ≡ false → Runs g cells pending
  pub contexts_are : failed ≡ false → contexts ≡ total g.contexts cells
  pub facts_are : failed ≡ false → facts ≡ total g.facts cells
