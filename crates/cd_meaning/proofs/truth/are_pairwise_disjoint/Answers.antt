use Rattle.std.specs.List.{All}
use Rattle.cd_meaning.specs.Truth.{IsDistinctlyApart}
use Rattle.cd_meaning.proofs.Decided.{refuted_at, more_at, done_at, not_from_false}
use Rattle.cd_meaning.proofs.truth.are_pairwise_disjoint.Goals as goal

pub returns-then-not-is_apart_from_each : goal.returns-then-not-is_apart_from_each
returns-then-not-is_apart_from_each c =
    refuted_at (λ x. All (IsDistinctlyApart c.args.i.now x) c.args.operands.now) c.args.operands.now c.loop-operand.operand-index c.operand-item.result c.loop-operand-test.true c.operand-item.is
    (not_from_false c.is_apart_from_each.result c.is_apart_from_each.ensures.1 c.if-not-is_apart_from_each.true)

pub loop-operand-preserved : goal.loop-operand-preserved
loop-operand-preserved c =
    more_at (λ x. All (IsDistinctlyApart c.args.i.now x) c.args.operands.now) c.args.operands.now c.loop-operand.operand-index c.operand-item.result c.loop-operand-test.true c.operand-item.is
    c.loop-operand.invariant (c.is_apart_from_each.ensures.0 c.if-not-is_apart_from_each.false)

pub returns : goal.returns
returns c = done_at (λ x. All (IsDistinctlyApart c.args.i.now x) c.args.operands.now) c.args.operands.now c.loop-operand.operand-index c.loop-operand-test.false c.loop-operand.invariant
