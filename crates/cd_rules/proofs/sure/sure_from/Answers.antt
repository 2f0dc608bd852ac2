use Rattle.std.proofs.Common.{refl}
use Rattle.cd_rules.specs.Walks.{IsSureByFact}
use Rattle.cd_rules.proofs.Sures.{to_sure_from, of_sure_from}
use Rattle.cd_rules.proofs.Pushed.{failed}
use Rattle.cd_rules.proofs.EachItem.{goes_on, stops, ends}
use Rattle.cd_rules.proofs.sure.sure_from.Goals as goal

pub returns-in_err-sure_by_fact : goal.returns-in_err-sure_by_fact
returns-in_err-sure_by_fact c = stops (IsSureByFact c.args.index.now.normal c.args.role c.args.key.now c.args.others.now)
    c.args.facts.now c.loop-fact.fact-index c.fact-item.result c.fact-item.result c.loop-fact-test.true c.fact-item.is
    _ c.loop-fact.invariant c.in_err-sure_by_fact.ensures (failed c.from_residual.result c.from_residual.ensures.0)
    (to_sure_from c.args.index.now.normal c.args.role c.args.key.now c.args.others.now c.args.facts.now)

pub loop-fact-preserved : goal.loop-fact-preserved
loop-fact-preserved c = goes_on (IsSureByFact c.args.index.now.normal c.args.role c.args.key.now c.args.others.now)
    c.args.facts.now c.loop-fact.fact-index c.fact-item.result c.fact-item.result c.loop-fact-test.true c.fact-item.is
    c.loop-fact.invariant c.in_ok-sure_by_fact.ensures refl

pub returns : goal.returns
returns c = ends _ (IsSureByFact c.args.index.now.normal c.args.role c.args.key.now c.args.others.now)
    c.args.facts.now c.loop-fact.fact-index c.loop-fact-test.false c.loop-fact.invariant
    (to_sure_from c.args.index.now.normal c.args.role c.args.key.now c.args.others.now c.args.facts.now)
    (of_sure_from c.args.index.now.normal c.args.role c.args.key.now c.args.others.now c.args.facts.now)
