use Rattle.std.proofs.Common.{◌↔◌, IsTrue, not, subst}
use Rattle.cd_cell.specs.Cells.{CellState, IsWhole}
use Rattle.cd_cell.proofs.Wholes.{whole_where}
use Rattle.cd_cell.proofs.cell.Cell.is_whole.Goals as goal

pub returns-clause-whole : goal.returns-clause-whole
returns-clause-whole c = subst (λ (v : CellState). IsTrue (not c.self.inside.failed) ↔ IsWhole v) c.self.view_is (whole_where _ c.self.invariant)
