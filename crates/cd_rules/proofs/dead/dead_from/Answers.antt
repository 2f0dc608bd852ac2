use Rattle.std.proofs.Common.{subst}
use Rattle.cd_base.specs.Lists.{SameSet}
use Rattle.cd_rules.proofs.Pushed.{pushed, unpushed, failed}
use Rattle.cd_rules.proofs.SameSets.{same_set_refl}
use Rattle.cd_rules.proofs.dead.dead_from.Goals as goal

pub returns-in_err-push : goal.returns-in_err-push
returns-in_err-push c = unpushed _ _ _ _ c.in_err-push.ensures.items (λ h d p. failed c.from_residual-in_err-push.result c.from_residual-in_err-push.ensures.0 h)

pub returns-in_ok-push : goal.returns-in_ok-push
returns-in_ok-push c = pushed _ _ _ _ c.in_ok-copy.field-0 c.args.others.now c.in_ok-push.ensures.items
    (subst (SameSet c.in_ok-copy.field-0) c.in_ok-copy.ensures (same_set_refl c.in_ok-copy.field-0))
    (λ d s. (c.is_dead.ensures.0 c.if-is_dead.true, s)) (λ h d p. p.1)
