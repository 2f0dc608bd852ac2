use Rattle.cd_rules.specs.Walks.{IsAllBy}
use Rattle.cd_rules.proofs.EachItem.{SoFar}
use Rattle.cd_rules.proofs.all.all_by.Given as goal

abbrev pub invariant-loop-triple : goal.invariant-loop-triple
invariant-loop-triple l = SoFar (IsAllBy l.index.normal l.role l.key l.left l.right) l.triples l.triple-index l.initial.out.items l.out.items
