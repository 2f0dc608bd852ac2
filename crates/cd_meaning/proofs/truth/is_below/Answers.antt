use Rattle.std.proofs.Common.{rules, arith, below_more}
use Rattle.std.proofs.lemmas.Bool.{both_ways}
use Rattle.cd_meaning.specs.Membership.{member}
use Rattle.cd_meaning.proofs.Decided.{decided_true, decided_false}
use Rattle.cd_meaning.proofs.truth.is_below.Goals as goal

pub returns-then-not-is_in : goal.returns-then-not-is_in
returns-then-not-is_in c =
    decided_false (λ p. both_ways (member c.args.i.now c.args.upper.now c.loop-element.element) (search rules) (p c.loop-element.element (omega arith) (search rules)))

pub loop-element-preserved : goal.loop-element-preserved
loop-element-preserved c = below_more _ _ c.loop-element.invariant (λ h. grind arith)

pub returns : goal.returns
returns c = decided_true (λ x lt h. c.loop-element.invariant x (omega arith) h)
