use Rattle.std.proofs.Common.{refl, arith}
use Rattle.std.proofs.lemmas.Grind.{common_steps}
use Rattle.cd_rules.specs.Walks.{IsSureWith}
use Rattle.cd_rules.proofs.FactUses.{from_sure, of_sure}
use Rattle.cd_rules.proofs.EachNumber.{in_range, goes_on_with, stops_with, ends_with}
use Rattle.cd_rules.proofs.Pushed.{failed}
use Rattle.cd_rules.proofs.sure.on_sure.Goals as goal

pub offset_bounds-clauses-number : goal.offset_bounds-clauses-number
offset_bounds-clauses-number c =
    let h = in_range (IsSureWith c.args.index.now.normal c.args.fact.now) c.args.clauses.now c.args.live.now c.loop-number.number-index c.loop-number-test.true c.requires.live in
    grind (arith, common_steps)

pub bounds-clauses-number : goal.bounds-clauses-number
bounds-clauses-number c = in_range (IsSureWith c.args.index.now.normal c.args.fact.now) c.args.clauses.now c.args.live.now c.loop-number.number-index c.loop-number-test.true c.requires.live

pub returns-in_err-sure_with : goal.returns-in_err-sure_with
returns-in_err-sure_with c = λ key. stops_with (IsSureWith c.args.index.now.normal c.args.fact.now) c.args.clauses.now c.args.live.now c.loop-number.number-index c.loop-number-test.true c.requires.live
    c.index-clauses-number.result c.index-clauses-number.is _ c.loop-number.invariant c.in_err-sure_with.ensures (failed c.from_residual.result c.from_residual.ensures.0)
    (from_sure c.args.index.now.normal key c.args.clauses.now c.args.live.now c.args.fact.now)

pub loop-number-preserved : goal.loop-number-preserved
loop-number-preserved c = goes_on_with (IsSureWith c.args.index.now.normal c.args.fact.now) c.args.clauses.now c.args.live.now c.loop-number.number-index c.loop-number-test.true c.requires.live
    c.index-clauses-number.result c.index-clauses-number.is c.loop-number.invariant c.in_ok-sure_with.ensures refl

pub returns : goal.returns
returns c = λ key. ends_with (IsSureWith c.args.index.now.normal c.args.fact.now) c.args.clauses.now c.args.live.now
    _ c.loop-number.number-index c.loop-number-test.false c.loop-number.invariant
    (from_sure c.args.index.now.normal key c.args.clauses.now c.args.live.now c.args.fact.now)
    (of_sure c.args.index.now.normal key c.args.clauses.now c.args.live.now c.args.fact.now)
