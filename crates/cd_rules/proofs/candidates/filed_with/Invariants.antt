use Rattle.std.proofs.Common.{[]}
use Rattle.cd_rules.proofs.Tried.{OfAtomAt}
use Rattle.cd_rules.proofs.Gathered.{HasGathered}
use Rattle.cd_rules.proofs.candidates.filed_with.Given as goal

abbrev pub invariant-atoms : goal.invariant-atoms
invariant-atoms l = HasGathered (OfAtomAt l.index.normal.n1 l.index.filed l.index.normal.atoms l.atoms l.atom) l.i [] l.numbers.items
