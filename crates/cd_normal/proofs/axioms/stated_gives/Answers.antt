use Rattle.std.proofs.Common.{ℕ, ap, sym, subst, ◌∙◌}
use Rattle.std.proofs.lemmas.Result.{IfOk-weaker}
use Rattle.cd_meaning.specs.declared.expression.Axiom.{Axiom}
use Rattle.cd_meaning.specs.declared.expression.Axiom.TheVariants.{Disjoint}
use Rattle.cd_normal.specs.NormalForm.{GivesApart}
use Rattle.cd_normal.specs.Made.{IsGiven, IsGivenBy}
use Rattle.cd_normal.proofs.axioms.stated_gives.Goals as goal

pub returns-in-Disjoint-clause-given : goal.returns-in-Disjoint-clause-given
returns-in-Disjoint-clause-given c = IfOk-weaker c.apart.result
    (λ done. (k : ℕ) → IsGiven c.args.classes c.args.maker.now c.apart.new.maker (λ Fresh axs. GivesApart c.args.classes Fresh k c.items-in-Disjoint.result.now axs))
    (λ done. IsGivenBy c.args.classes c.args.maker.now c.apart.new.maker c.args.stated.now)
    (λ done h. subst (λ (stated : Axiom). IsGivenBy c.args.classes c.args.maker.now c.apart.new.maker stated) (ap Disjoint c.items-in-Disjoint.ensures ∙ sym c.in-Disjoint.is) h)
    c.apart.ensures.given
