use Rattle.std.specs.List.{All}
use Rattle.cd_meaning.specs.Truth.{HasSameMembers}
use Rattle.cd_meaning.proofs.Decided.{refuted_at, more_at, done_at, not_from_false}
use Rattle.cd_meaning.proofs.truth.have_same_members.Goals as goal

pub returns-then-not-has_members_of_each : goal.returns-then-not-has_members_of_each
returns-then-not-has_members_of_each c =
    refuted_at (λ x. All (HasSameMembers c.args.i.now x) c.args.operands.now) c.args.operands.now c.loop-operand.operand-index c.operand-item.result c.loop-operand-test.true c.operand-item.is
    (not_from_false c.has_members_of_each.result c.has_members_of_each.ensures.1 c.if-not-has_members_of_each.true)

pub loop-operand-preserved : goal.loop-operand-preserved
loop-operand-preserved c =
    more_at (λ x. All (HasSameMembers c.args.i.now x) c.args.operands.now) c.args.operands.now c.loop-operand.operand-index c.operand-item.result c.loop-operand-test.true c.operand-item.is
    c.loop-operand.invariant (c.has_members_of_each.ensures.0 c.if-not-has_members_of_each.false)

pub returns : goal.returns
returns c = done_at (λ x. All (HasSameMembers c.args.i.now x) c.args.operands.now) c.args.operands.now c.loop-operand.operand-index c.loop-operand-test.false c.loop-operand.invariant
