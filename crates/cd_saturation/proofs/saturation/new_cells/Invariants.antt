use Rattle.std.proofs.Common.{◌≡◌, ℕ, length}
use Rattle.cd_actor.specs.Cells.{At}
use Rattle.cd_cell.specs.Cells.{CellState}
use Rattle.cd_saturation.specs.Saturation.{new_cell}
use Rattle.cd_saturation.proofs.saturation.new_cells.Given as goal

abbrev pub invariant-loop-number : goal.invariant-loop-number
invariant-loop-number l = record {
  each : length l.cells.items ≡ l.number;
  are : (i : ℕ) (c : CellState) → At l.cells.items i c → c ≡ new_cell l.index.normal l.count i;
}
