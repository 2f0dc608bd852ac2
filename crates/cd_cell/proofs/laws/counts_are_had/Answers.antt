use Rattle.cd_cell.proofs.CountedCells.{cell_counts}
use Rattle.cd_cell.proofs.laws.counts_are_had.Goals as goal

pub returns : goal.returns
returns c = cell_counts
