use Rattle.std.proofs.Common.{◌∷◌}
use Rattle.cd_clause.specs.declared.elem.Elem.TheVariants.{Plain}
use Rattle.cd_rules.proofs.Pushed.{pushed, unpushed, failed}
use Rattle.cd_rules.proofs.sure.sure_by.Goals as goal

pub returns-in_err-push : goal.returns-in_err-push
returns-in_err-push c = unpushed _ _ _ _ c.in_err-push.ensures.items (λ h d p. failed c.from_residual-in_err-push.result c.from_residual-in_err-push.ensures.0 h)

pub returns : goal.returns
returns c = pushed _ _ _ _ c.in_ok-with.field-0 (Plain c.args.triple.now.other ∷ c.args.others.now)
    c.in_ok-push.ensures.items c.in_ok-with.ensures (λ d s. (c.is_under.ensures.0 c.if-not-is_under.false, s)) (λ h d p. p.1)
