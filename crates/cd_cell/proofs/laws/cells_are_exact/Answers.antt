use Rattle.cd_cell.proofs.CellAnswers.{cell_exactness}
use Rattle.cd_cell.proofs.laws.cells_are_exact.Goals as goal

pub returns : goal.returns
returns c = cell_exactness
