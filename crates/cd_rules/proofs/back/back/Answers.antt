use Rattle.std.proofs.Common.{refl}
use Rattle.cd_rules.specs.Walks.{IsBackBy}
use Rattle.cd_rules.proofs.Backs.{to_back, of_back}
use Rattle.cd_rules.proofs.Pushed.{failed}
use Rattle.cd_rules.proofs.EachItem.{goes_on, stops, ends}
use Rattle.cd_rules.proofs.back.back.Goals as goal

pub returns-in_err-back_by : goal.returns-in_err-back_by
returns-in_err-back_by c = stops (IsBackBy c.args.index.now.normal c.args.role c.args.key.now c.args.atom c.args.others.now)
    c.backs-triple-items.result.now c.loop-triple.triple-index c.triple-item.result c.triple-item.result c.loop-triple-test.true c.triple-item.is
    _ c.loop-triple.invariant c.in_err-back_by.ensures (failed c.from_residual.result c.from_residual.ensures.0)
    (to_back c.args.index.now.normal c.args.role c.args.key.now c.args.atom c.args.others.now c.backs-triple-items.result.now c.backs-triple-items.ensures)

pub loop-triple-preserved : goal.loop-triple-preserved
loop-triple-preserved c = goes_on (IsBackBy c.args.index.now.normal c.args.role c.args.key.now c.args.atom c.args.others.now)
    c.backs-triple-items.result.now c.loop-triple.triple-index c.triple-item.result c.triple-item.result c.loop-triple-test.true c.triple-item.is
    c.loop-triple.invariant c.in_ok-back_by.ensures refl

pub returns : goal.returns
returns c = ends _ (IsBackBy c.args.index.now.normal c.args.role c.args.key.now c.args.atom c.args.others.now)
    c.backs-triple-items.result.now c.loop-triple.triple-index c.loop-triple-test.false c.loop-triple.invariant
    (to_back c.args.index.now.normal c.args.role c.args.key.now c.args.atom c.args.others.now c.backs-triple-items.result.now c.backs-triple-items.ensures)
    (of_back c.args.index.now.normal c.args.role c.args.key.now c.args.atom c.args.others.now c.backs-triple-items.result.now c.backs-triple-items.ensures)
