use Rattle.std.proofs.Common.{◌++◌, map}
use Rattle.cd_clause.specs.declared.elem.Elem.TheVariants.{Plain}
use Rattle.cd_rules.proofs.Pushed.{pushed, unpushed, failed}
use Rattle.cd_rules.proofs.con.conclude.Goals as goal

pub returns-in_err-push : goal.returns-in_err-push
returns-in_err-push c = unpushed _ _ _ _ c.in_err-push.ensures.items (λ h d p. failed c.from_residual-in_err-push.result c.from_residual-in_err-push.ensures.0 h)

pub returns : goal.returns
returns c = pushed _ _ _ _ c.in_ok-with_atoms.field-0 (c.args.base.now ++ map Plain c.args.atoms.now) c.in_ok-push.ensures.items c.in_ok-with_atoms.ensures (λ d s. s) (λ h d p. p)
