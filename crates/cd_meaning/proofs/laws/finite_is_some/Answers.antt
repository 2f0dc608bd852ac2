use Rattle.cd_meaning.proofs.FiniteStructure.{finite_is_some}
use Rattle.cd_meaning.proofs.laws.finite_is_some.Goals as goal

pub returns : goal.returns
returns c = finite_is_some
