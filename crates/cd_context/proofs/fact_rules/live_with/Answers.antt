use Rattle.std.proofs.Common.{ℕ, List, inr, sym, subst}
use Rattle.cd_base.specs.Lists.{OneOf}
use Rattle.cd_context.proofs.fact_rules.live_with.Goals as goal

pub returns-clause-live : goal.returns-clause-live
returns-clause-live c = λ k m. ((c.in_ok-numbers.ensures k).0 m).1

pub returns-clause-every : goal.returns-clause-every
returns-clause-every c = λ k l h. (c.in_ok-numbers.ensures k).1 (subst (λ (z : List ℕ). OneOf k z) (sym c.as_slice.ensures.value) (c.in_ok-push_with_existential.ensures k (inr h)), l)
