use Rattle.std.proofs.Common.{map, refl}
use Rattle.cd_clause.specs.declared.elem.Elem.TheVariants.{Plain}
use Rattle.cd_rules.specs.Partners.{IsJoin}
use Rattle.cd_rules.proofs.Pushed.{failed}
use Rattle.cd_rules.proofs.EachItem.{goes_on, stops, ends}
use Rattle.cd_rules.proofs.con.conclude_each.Goals as goal

pub returns-in_err-conclude : goal.returns-in_err-conclude
returns-in_err-conclude c = stops (IsJoin (map Plain c.args.atoms.now))
    c.args.bases.now c.loop-base.base-index c.base-item.result c.base-item.result c.loop-base-test.true c.base-item.is
    _ c.loop-base.invariant c.in_err-conclude.ensures (failed c.from_residual.result c.from_residual.ensures.0) (λ d p. p)

pub loop-base-preserved : goal.loop-base-preserved
loop-base-preserved c = goes_on (IsJoin (map Plain c.args.atoms.now))
    c.args.bases.now c.loop-base.base-index c.base-item.result c.base-item.result c.loop-base-test.true c.base-item.is
    c.loop-base.invariant c.in_ok-conclude.ensures refl

pub returns : goal.returns
returns c = ends _ (IsJoin (map Plain c.args.atoms.now))
    c.args.bases.now c.loop-base.base-index c.loop-base-test.false c.loop-base.invariant (λ d p. p) (λ d p. p)
