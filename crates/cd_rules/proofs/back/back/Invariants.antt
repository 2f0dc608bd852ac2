use Rattle.cd_rules.specs.Walks.{IsBackBy}
use Rattle.cd_rules.proofs.EachItem.{SoFar}
use Rattle.cd_rules.proofs.back.back.Given as goal

abbrev pub invariant-loop-triple : goal.invariant-loop-triple
invariant-loop-triple l = SoFar (IsBackBy l.index.normal l.role l.key l.atom l.others) l.triple-items l.triple-index l.initial.out.items l.out.items
