use Rattle.cd_cell.proofs.Saturating.{saturation}
use Rattle.cd_cell.proofs.laws.closed_is_saturated.Goals as goal

pub returns : goal.returns
returns c = saturation
