use Rattle.cd_rules.specs.Walks.{IsBackWith}
use Rattle.cd_rules.proofs.EachNumber.{SoFarWith}
use Rattle.cd_rules.proofs.back.on_back.Given as goal

abbrev pub invariant-loop-number : goal.invariant-loop-number
invariant-loop-number l = SoFarWith (IsBackWith l.index.normal l.fact) l.clauses l.live l.number-index l.initial.out.items l.out.items
