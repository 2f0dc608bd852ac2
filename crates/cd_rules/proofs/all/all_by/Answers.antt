use Rattle.std.proofs.Common.{refl}
use Rattle.cd_rules.specs.Walks.{IsAllBy}
use Rattle.cd_rules.proofs.Pushed.{failed}
use Rattle.cd_rules.proofs.EachItem.{goes_on, stops, ends}
use Rattle.cd_rules.proofs.all.all_by.Goals as goal

pub returns-in_err-all_by_one : goal.returns-in_err-all_by_one
returns-in_err-all_by_one c = stops (IsAllBy c.args.index.now.normal c.args.role c.args.key.now c.args.left.now c.args.right.now)
    c.args.triples.now c.loop-triple.triple-index c.triple-item.result c.triple-item.result c.loop-triple-test.true c.triple-item.is
    _ c.loop-triple.invariant c.in_err-all_by_one.ensures (failed c.from_residual.result c.from_residual.ensures.0) (λ d p. p)

pub loop-triple-preserved : goal.loop-triple-preserved
loop-triple-preserved c = goes_on (IsAllBy c.args.index.now.normal c.args.role c.args.key.now c.args.left.now c.args.right.now)
    c.args.triples.now c.loop-triple.triple-index c.triple-item.result c.triple-item.result c.loop-triple-test.true c.triple-item.is
    c.loop-triple.invariant c.in_ok-all_by_one.ensures refl

pub returns : goal.returns
returns c = ends _ (IsAllBy c.args.index.now.normal c.args.role c.args.key.now c.args.left.now c.args.right.now)
    c.args.triples.now c.loop-triple.triple-index c.loop-triple-test.false c.loop-triple.invariant (λ d p. p) (λ d p. p)
