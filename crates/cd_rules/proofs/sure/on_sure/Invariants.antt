use Rattle.cd_rules.specs.Walks.{IsSureWith}
use Rattle.cd_rules.proofs.EachNumber.{SoFarWith}
use Rattle.cd_rules.proofs.sure.on_sure.Given as goal

abbrev pub invariant-loop-number : goal.invariant-loop-number
invariant-loop-number l = SoFarWith (IsSureWith l.index.normal l.fact) l.clauses l.live l.number-index l.initial.out.items l.out.items
