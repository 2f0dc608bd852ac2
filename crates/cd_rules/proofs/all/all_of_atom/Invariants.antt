use Rattle.cd_rules.specs.Walks.{IsAllWithExist}
use Rattle.cd_rules.proofs.EachNumber.{SoFarWith}
use Rattle.cd_rules.proofs.all.all_of_atom.Given as goal

abbrev pub invariant-loop-number : goal.invariant-loop-number
invariant-loop-number l = SoFarWith (IsAllWithExist l.index.normal l.triples l.others) l.clauses l.choices l.number-index l.initial.out.items l.out.items
