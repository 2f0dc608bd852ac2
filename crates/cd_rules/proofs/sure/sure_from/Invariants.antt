use Rattle.cd_rules.specs.Walks.{IsSureByFact}
use Rattle.cd_rules.proofs.EachItem.{SoFar}
use Rattle.cd_rules.proofs.sure.sure_from.Given as goal

abbrev pub invariant-loop-fact : goal.invariant-loop-fact
invariant-loop-fact l = SoFar (IsSureByFact l.index.normal l.role l.key l.others) l.facts l.fact-index l.initial.out.items l.out.items
