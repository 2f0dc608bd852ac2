use Rattle.std.proofs.Common.{refl}
use Rattle.cd_rules.specs.Partners.{IsJoin}
use Rattle.cd_rules.proofs.Pushed.{failed}
use Rattle.cd_rules.proofs.EachItem.{goes_on, stops, ends}
use Rattle.cd_rules.proofs.con.join_each.Goals as goal

pub returns-in_err-join : goal.returns-in_err-join
returns-in_err-join c = stops (IsJoin c.args.others.now)
    c.args.clauses.now c.loop-clause.clause-index c.clause-item.result c.clause-item.result c.loop-clause-test.true c.clause-item.is
    _ c.loop-clause.invariant c.in_err-join.ensures (failed c.from_residual.result c.from_residual.ensures.0) (λ d p. p)

pub loop-clause-preserved : goal.loop-clause-preserved
loop-clause-preserved c = goes_on (IsJoin c.args.others.now)
    c.args.clauses.now c.loop-clause.clause-index c.clause-item.result c.clause-item.result c.loop-clause-test.true c.clause-item.is
    c.loop-clause.invariant c.in_ok-join.ensures refl

pub returns : goal.returns
returns c = ends _ (IsJoin c.args.others.now)
    c.args.clauses.now c.loop-clause.clause-index c.loop-clause-test.false c.loop-clause.invariant (λ d p. p) (λ d p. p)
