use Rattle.std.proofs.Common.{◌∷◌, ◌++◌}
use Rattle.cd_base.specs.Keys.{plain, key_with}
use Rattle.cd_clause.specs.declared.elem.Elem.TheVariants.{Exist}
use Rattle.cd_rules.proofs.Pushed.{pushed, unpushed, failed}
use Rattle.cd_rules.proofs.all.all_by_one.Goals as goal

pub returns-in_err-push : goal.returns-in_err-push
returns-in_err-push c = unpushed _ _ _ _ c.in_err-push.ensures.items (λ h d p. failed c.from_residual-in_err-push.result c.from_residual-in_err-push.ensures.0 h)

pub returns : goal.returns
returns c = pushed _ _ _ _ c.in_ok-concluded.field-0 (Exist c.args.role (key_with (plain c.args.triple.now.other) c.args.key.now) ∷ (c.args.left.now ++ c.args.right.now))
    c.in_ok-push.ensures.items c.in_ok-concluded.ensures (λ d s. (c.is_under.ensures.0 c.if-not-is_under.false, s)) (λ h d p. p.1)
