use Rattle.cd_model.proofs.Complete.{completeness}
use Rattle.cd_model.proofs.laws.contexts_have_a_model.Goals as goal

pub returns : goal.returns
returns c = completeness
