use Rattle.cd_top.proofs.Restated.{answer_restated}
use Rattle.cd_top.proofs.laws.answer_is_restated.Goals as goal

pub returns : goal.returns
returns c = answer_restated
