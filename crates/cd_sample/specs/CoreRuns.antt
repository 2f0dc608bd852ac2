-- A core of one cell, in which the context of one class begins.
use Rattle.std.specs.Prelude.{◌≡◌, ℕ, true, List, [], ◌∷◌}
use Rattle.cd_base.specs.Keys.{plain, is_named}
use Rattle.cd_base.specs.declared.normal.Normal.{Normal}
use Rattle.cd_actor.specs.Cells.{At, AreCells, AreOf, HadOrPends}
use Rattle.cd_context.specs.declared.facts.Note.{Note}
use Rattle.cd_cell.specs.Cells.{CellState, meaning, place_of}
use Rattle.cd_cell.specs.Subsumers.{HasContext}
use Rattle.cd_core.specs.State.{CoreState}
use Rattle.cd_saturation.specs.Saturation.{start_of}

-- one cell is its whole family, its normal axioms name the class, and the message that begins the class's context is had or pends
pub record IsUnderWay (a : ℕ) (core : CoreState CellState Note) : Type 0 where
  pub normal : Normal
  pub named : is_named normal a ≡ true
  pub family : AreOf meaning (1, normal) core.cells
  pub start : HadOrPends meaning core.cells core.pending (start_of 1 a)

-- the cells can go into a core again, the first's normal axioms name the class, and the class has its context
pub record IsWorked (a : ℕ) (cells : List CellState) : Type 0 where
  pub are_cells : AreCells meaning cells
  pub named : (c : CellState) → At cells 0 c → is_named c.normal a ≡ true
  pub begun : (c : CellState) × At cells (place_of 1 (plain a ∷ [])) c × HasContext c.contexts a
