use Rattle.cd_clause.specs.declared.elem.Elem.TheVariants.{Exist}
use Rattle.cd_clause.specs.Elements.{rest}
use Rattle.cd_rules.proofs.Pushed.{pushed, unpushed, failed}
use Rattle.cd_rules.proofs.dead.dead_with.Goals as goal

pub returns-in_err-push : goal.returns-in_err-push
returns-in_err-push c = unpushed _ _ _ _ c.in_err-push.ensures.items (λ h d p. failed c.from_residual-in_err-push.result c.from_residual-in_err-push.ensures.0 h)

pub returns-in_ok-push : goal.returns-in_ok-push
returns-in_ok-push c =
    let found = rw c.in-Some.is at c.in_ok-others.ensures in
    pushed _ _ _ _ c.in-Some.others (rest (Exist c.args.fact.now.role c.args.fact.now.key) c.args.clause.now) c.in_ok-push.ensures.items found.1 (λ d s. (found.0, s)) (λ h d p. p.1)
