use Rattle.std.proofs.Common.{◌≡◌, ◌+◌, length}
use Rattle.cd_rules.specs.Candidates.{filed_count}
use Rattle.cd_rules.proofs.candidates.are_fewer.Given as goal

abbrev pub invariant-atoms : goal.invariant-atoms
invariant-atoms l = l.limit + filed_count l.index.filed l.index.normal.atoms l.rest ≡ l.left + filed_count l.index.filed l.index.normal.atoms l.atoms

abbrev pub decreases-atoms : goal.decreases-atoms
decreases-atoms l = length l.rest
