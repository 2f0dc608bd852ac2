use Rattle.cd_rules.specs.Walks.{IsAllWithAtom}
use Rattle.cd_rules.proofs.EachNumber.{SoFarWith}
use Rattle.cd_rules.proofs.all.all_of_exist.Given as goal

abbrev pub invariant-loop-number : goal.invariant-loop-number
invariant-loop-number l = SoFarWith (IsAllWithAtom l.index.normal l.role l.key l.others) l.clauses l.choices l.number-index l.initial.out.items l.out.items
