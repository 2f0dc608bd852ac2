use Rattle.std.proofs.Common.{◌≡◌, map}
use Rattle.std.specs.List.{range_with_len}
use Rattle.cd_meaning.specs.Hierarchy.{representative}
use Rattle.cd_taxonomy.specs.Relation.{relation}
use Rattle.cd_taxonomy.proofs.representatives.representative_list.Given as goal

abbrev pub invariant-loop-c : goal.invariant-loop-c
invariant-loop-c l = l.found.items ≡ map (representative l.document.classes (relation l.above)) (range_with_len 0 l.c)
