use Rattle.cd_model.proofs.Exact.{exact}
use Rattle.cd_model.proofs.laws.answers_are_exact.Goals as goal

pub returns : goal.returns
returns c = exact
