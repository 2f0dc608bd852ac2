use Rattle.cd_top.proofs.Answering.{below_over}
use Rattle.cd_top.proofs.laws.is_below_in_every_structure.Goals as goal

pub returns : goal.returns
returns g c = below_over _
