use Rattle.std.proofs.Common.{refl}
use Rattle.cd_rules.specs.Walks.{IsSureBy}
use Rattle.cd_rules.proofs.Sures.{to_sure, of_sure}
use Rattle.cd_rules.proofs.Pushed.{failed}
use Rattle.cd_rules.proofs.EachItem.{goes_on, stops, ends}
use Rattle.cd_rules.proofs.sure.sure.Goals as goal

pub returns-in_err-sure_by : goal.returns-in_err-sure_by
returns-in_err-sure_by c = stops (IsSureBy c.args.index.now.normal c.args.role c.args.others.now)
    c.backs-triple-items.result.now c.loop-triple.triple-index c.triple-item.result c.triple-item.result c.loop-triple-test.true c.triple-item.is
    _ c.loop-triple.invariant c.in_err-sure_by.ensures (failed c.from_residual.result c.from_residual.ensures.0)
    (to_sure c.args.index.now.normal c.args.role c.args.atom c.args.others.now c.backs-triple-items.result.now c.backs-triple-items.ensures)

pub loop-triple-preserved : goal.loop-triple-preserved
loop-triple-preserved c = goes_on (IsSureBy c.args.index.now.normal c.args.role c.args.others.now)
    c.backs-triple-items.result.now c.loop-triple.triple-index c.triple-item.result c.triple-item.result c.loop-triple-test.true c.triple-item.is
    c.loop-triple.invariant c.in_ok-sure_by.ensures refl

pub returns : goal.returns
returns c = ends _ (IsSureBy c.args.index.now.normal c.args.role c.args.others.now)
    c.backs-triple-items.result.now c.loop-triple.triple-index c.loop-triple-test.false c.loop-triple.invariant
    (to_sure c.args.index.now.normal c.args.role c.args.atom c.args.others.now c.backs-triple-items.result.now c.backs-triple-items.ensures)
    (of_sure c.args.index.now.normal c.args.role c.args.atom c.args.others.now c.backs-triple-items.result.now c.backs-triple-items.ensures)
