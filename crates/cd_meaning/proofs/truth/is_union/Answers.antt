use Rattle.std.proofs.Common.{arith}
use Rattle.cd_meaning.proofs.Decided.{decided_true, decided_false}
use Rattle.cd_meaning.proofs.Unions.{union_same, union_differs}
use Rattle.cd_meaning.proofs.truth.is_union.Goals as goal

pub returns-then-class_has-is_in_one : goal.returns-then-class_has-is_in_one
returns-then-class_has-is_in_one c =
    decided_false (union_differs c.args.i.now c.args.class c.args.operands.now c.loop-element.element c.class_has.result c.is_in_one.result c.loop-element-test.true
    c.class_has.ensures c.is_in_one.ensures c.if-class_has-is_in_one.true)

pub returns : goal.returns
returns c = decided_true (union_same c.args.i.now c.args.class c.args.operands.now (λ x lt. c.loop-element.invariant x (omega arith)))
