use Rattle.std.proofs.Common.{◌≡◌, map, filter, take}
use Rattle.cd_taxonomy.specs.Covered.{is_candidate, with_count}
use Rattle.cd_taxonomy.proofs.parents.candidates.Given as goal

abbrev pub invariant-loop-d : goal.invariant-loop-d
invariant-loop-d l = l.found.items ≡ map (with_count l.counts) (filter (is_candidate l.representative_of l.counts l.r) (take l.d-index l.row))
