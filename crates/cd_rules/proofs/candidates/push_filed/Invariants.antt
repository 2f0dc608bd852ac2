use Rattle.cd_rules.proofs.Tried.{OfFound}
use Rattle.cd_rules.proofs.Gathered.{HasGathered}
use Rattle.cd_rules.proofs.candidates.push_filed.Given as goal

abbrev pub invariant-found : goal.invariant-found
invariant-found l = HasGathered (OfFound l.index.normal.n1 l.found l.atom) l.i l.fn.numbers.items l.numbers.items
