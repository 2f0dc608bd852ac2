use Rattle.cd_meaning.specs.Truth.{HasSameMembers}
use Rattle.cd_meaning.proofs.Decided.{refuted_at, more_at, done_at, not_from_false}
use Rattle.cd_meaning.proofs.truth.has_members_of_each.Goals as goal

pub returns-then-not-has_same_members : goal.returns-then-not-has_same_members
returns-then-not-has_same_members c =
    refuted_at (HasSameMembers c.args.i.now c.args.first.now) c.args.operands.now c.loop-operand.operand-index c.operand-item.result c.loop-operand-test.true c.operand-item.is
    (not_from_false c.has_same_members.result c.has_same_members.ensures.1 c.if-not-has_same_members.true)

pub loop-operand-preserved : goal.loop-operand-preserved
loop-operand-preserved c =
    more_at (HasSameMembers c.args.i.now c.args.first.now) c.args.operands.now c.loop-operand.operand-index c.operand-item.result c.loop-operand-test.true c.operand-item.is
    c.loop-operand.invariant (c.has_same_members.ensures.0 c.if-not-has_same_members.false)

pub returns : goal.returns
returns c = done_at (HasSameMembers c.args.i.now c.args.first.now) c.args.operands.now c.loop-operand.operand-index c.loop-operand-test.false c.loop-operand.invariant
