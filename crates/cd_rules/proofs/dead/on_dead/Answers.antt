use Rattle.std.proofs.Common.{refl, arith}
use Rattle.std.proofs.lemmas.Grind.{common_steps}
use Rattle.cd_rules.specs.Walks.{IsDeadWith}
use Rattle.cd_rules.proofs.FactUses.{from_dead, of_dead}
use Rattle.cd_rules.proofs.EachNumber.{in_range, goes_on_with, stops_with, ends_with}
use Rattle.cd_rules.proofs.Pushed.{failed}
use Rattle.cd_rules.proofs.dead.on_dead.Goals as goal

pub offset_bounds-clauses-number : goal.offset_bounds-clauses-number
offset_bounds-clauses-number c =
    let h = in_range (IsDeadWith c.args.index.now.normal c.args.fact.now) c.args.clauses.now c.args.live.now c.loop-number.number-index c.loop-number-test.true c.requires.live in
    grind (arith, common_steps)

pub bounds-clauses-number : goal.bounds-clauses-number
bounds-clauses-number c = in_range (IsDeadWith c.args.index.now.normal c.args.fact.now) c.args.clauses.now c.args.live.now c.loop-number.number-index c.loop-number-test.true c.requires.live

pub returns-in_err-dead_with : goal.returns-in_err-dead_with
returns-in_err-dead_with c = λ key. stops_with (IsDeadWith c.args.index.now.normal c.args.fact.now) c.args.clauses.now c.args.live.now c.loop-number.number-index c.loop-number-test.true c.requires.live
    c.index-clauses-number.result c.index-clauses-number.is _ c.loop-number.invariant c.in_err-dead_with.ensures (failed c.from_residual.result c.from_residual.ensures.0)
    (from_dead c.args.index.now.normal key c.args.clauses.now c.args.live.now c.args.fact.now)

pub loop-number-preserved : goal.loop-number-preserved
loop-number-preserved c = goes_on_with (IsDeadWith c.args.index.now.normal c.args.fact.now) c.args.clauses.now c.args.live.now c.loop-number.number-index c.loop-number-test.true c.requires.live
    c.index-clauses-number.result c.index-clauses-number.is c.loop-number.invariant c.in_ok-dead_with.ensures refl

pub returns : goal.returns
returns c = λ key. ends_with (IsDeadWith c.args.index.now.normal c.args.fact.now) c.args.clauses.now c.args.live.now
    _ c.loop-number.number-index c.loop-number-test.false c.loop-number.invariant
    (from_dead c.args.index.now.normal key c.args.clauses.now c.args.live.now c.args.fact.now)
    (of_dead c.args.index.now.normal key c.args.clauses.now c.args.live.now c.args.fact.now)
