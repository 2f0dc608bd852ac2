use Rattle.cd_top.proofs.SameAnswer.{same_answer}
use Rattle.cd_top.proofs.laws.same_have_same_answer.Goals as goal

pub returns : goal.returns
returns c = same_answer
