use Rattle.cd_meaning.specs.Truth.{IsDistinctlyApart}
use Rattle.cd_meaning.proofs.Decided.{refuted_at, more_at, done_at, not_from_false}
use Rattle.cd_meaning.proofs.truth.is_apart_from_each.Goals as goal

pub returns-then-not-is_distinctly_apart : goal.returns-then-not-is_distinctly_apart
returns-then-not-is_distinctly_apart c =
    refuted_at (IsDistinctlyApart c.args.i.now c.args.first.now) c.args.operands.now c.loop-operand.operand-index c.operand-item.result c.loop-operand-test.true c.operand-item.is
    (not_from_false c.is_distinctly_apart.result c.is_distinctly_apart.ensures.1 c.if-not-is_distinctly_apart.true)

pub loop-operand-preserved : goal.loop-operand-preserved
loop-operand-preserved c =
    more_at (IsDistinctlyApart c.args.i.now c.args.first.now) c.args.operands.now c.loop-operand.operand-index c.operand-item.result c.loop-operand-test.true c.operand-item.is
    c.loop-operand.invariant (c.is_distinctly_apart.ensures.0 c.if-not-is_distinctly_apart.false)

pub returns : goal.returns
returns c = done_at (IsDistinctlyApart c.args.i.now c.args.first.now) c.args.operands.now c.loop-operand.operand-index c.loop-operand-test.false c.loop-operand.invariant
