use Rattle.cd_model.proofs.TrueAnswers.{one_true_answer}
use Rattle.cd_model.proofs.laws.has_one_true_answer.Goals as goal

pub returns : goal.returns
returns c = one_true_answer
