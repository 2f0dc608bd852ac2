-- How a core begins.
use Rattle.std.specs.Prelude.{◌≡◌, ℕ, false, List, ◌++◌}
use Rattle.cd_actor.specs.Meaning.{Meaning}
use Rattle.cd_actor.specs.Owed.{IsOwedInTurn}
use Rattle.cd_core.specs.State.{CoreState}

-- a core that begins with these cells and start messages
pub record IsBegun {A M : Type 0} (g : Meaning A M) (cells : List A) (start : List (ℕ × M))
    (core : CoreState A M) : Type 0 where
  pub cells_are : core.cells ≡ cells
  pub more : List (ℕ × M)
  -- the start messages pend first
  pub pending : core.pending ≡ start ++ more
  -- then what is owed and not had, by cell
  pub owed : IsOwedInTurn g cells cells more
  pub stands : core.failed ≡ false
