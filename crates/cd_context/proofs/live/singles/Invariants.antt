use Rattle.std.proofs.Common.{[]}
use Rattle.cd_rules.proofs.Gathered.{HasGathered}
use Rattle.cd_context.proofs.Singles.{StandsAlone}
use Rattle.cd_context.proofs.live.singles.Given as goal

abbrev pub invariant-numbers : goal.invariant-numbers
invariant-numbers l = HasGathered (StandsAlone l.clauses l.live) l.i [] l.atoms.items
