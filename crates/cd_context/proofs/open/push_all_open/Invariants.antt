use Rattle.cd_rules.proofs.Gathered.{HasGathered}
use Rattle.cd_context.proofs.OpenNames.{OpensAt}
use Rattle.cd_context.proofs.open.push_all_open.Given as goal

abbrev pub invariant-loop-i : goal.invariant-loop-i
invariant-loop-i l = HasGathered (OpensAt l.normal l.clauses l.live) l.i l.fn.atoms.items l.atoms.items
