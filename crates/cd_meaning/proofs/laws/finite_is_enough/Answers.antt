use Rattle.cd_meaning.proofs.FiniteModels.{finite_is_enough}
use Rattle.cd_meaning.proofs.laws.finite_is_enough.Goals as goal

pub returns : goal.returns
returns g c = finite_is_enough _
