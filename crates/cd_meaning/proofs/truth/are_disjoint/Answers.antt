use Rattle.std.proofs.Common.{rules, arith, below_more}
use Rattle.cd_meaning.proofs.Decided.{decided_true, decided_false}
use Rattle.cd_meaning.proofs.truth.are_disjoint.Goals as goal

pub returns-then-is_in-2 : goal.returns-then-is_in-2
returns-then-is_in-2 c = decided_false (λ p. p c.loop-element.element (omega arith) (search rules) (search rules))

pub loop-element-preserved : goal.loop-element-preserved
loop-element-preserved c = below_more _ _ c.loop-element.invariant (λ h k. grind arith)

pub returns : goal.returns
returns c = decided_true (λ x lt h k. c.loop-element.invariant x (omega arith) h k)
