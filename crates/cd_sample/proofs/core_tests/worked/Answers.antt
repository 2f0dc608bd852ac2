use Rattle.cd_sample.proofs.CoreRuns.{way_ended}
use Rattle.cd_sample.proofs.core_tests.worked.Goals as goal

pub returns : goal.returns
returns g c = way_ended 2 _ _ c.requires c.in-Ok.ensures.ok.settled
