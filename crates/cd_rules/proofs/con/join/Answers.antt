use Rattle.std.proofs.Common.{◌++◌}
use Rattle.cd_rules.proofs.Pushed.{pushed, unpushed, failed}
use Rattle.cd_rules.proofs.con.join.Goals as goal

pub returns-in_err-push : goal.returns-in_err-push
returns-in_err-push c = unpushed _ _ _ _ c.in_err-push.ensures.items (λ h d p. failed c.from_residual-in_err-push.result c.from_residual-in_err-push.ensures.0 h)

pub returns : goal.returns
returns c = pushed _ _ _ _ c.in_ok-join.field-0 (c.args.clause.now ++ c.args.others.now) c.in_ok-push.ensures.items c.in_ok-join.ensures (λ d s. s) (λ h d p. p)
