use Rattle.cd_sample.proofs.CoreRuns.{way_kept}
use Rattle.cd_sample.proofs.core_tests.stepped.Goals as goal

pub returns : goal.returns
returns g c = way_kept 2 _ _ c.requires c.in-Ok.ensures.keeps c.in-Ok.ensures.family
