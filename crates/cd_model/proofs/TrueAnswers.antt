-- A class has one true answer.
use Rattle.std.proofs.Common.{refl, ap}
use Rattle.cd_base.specs.declared.answer.Answer.TheVariants.{Unsatisfiable, Of}
use Rattle.cd_model.specs.TrueAnswers.{OneTrueAnswer}
use Rattle.cd_model.proofs.Ascending.{same_ascending}

-- either the class has no element in any model, or its atoms ascend and are the same ones
pub one_true_answer : OneTrueAnswer
one_true_answer n a Unsatisfiable Unsatisfiable s t = refl
one_true_answer n a Unsatisfiable (Of ys) s t = absurd (t.0 s)
one_true_answer n a (Of xs) Unsatisfiable s t = absurd (s.0 t)
one_true_answer n a (Of xs) (Of ys) s t = ap Of (same_ascending xs ys s.1 t.1 (λ b m. (t.2 b).1 ((s.2 b).0 m)) (λ b m. (s.2 b).1 ((t.2 b).0 m)))
