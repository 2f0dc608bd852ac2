use Rattle.cd_rules.specs.Walks.{IsSureBy}
use Rattle.cd_rules.proofs.EachItem.{SoFar}
use Rattle.cd_rules.proofs.sure.sure.Given as goal

abbrev pub invariant-loop-triple : goal.invariant-loop-triple
invariant-loop-triple l = SoFar (IsSureBy l.index.normal l.role l.others) l.triple-items l.triple-index l.initial.out.items l.out.items
