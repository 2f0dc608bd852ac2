use Rattle.std.proofs.Common.{◌≡◌, map, take}
use Rattle.cd_taxonomy.specs.Groups.{group_at}
use Rattle.cd_taxonomy.specs.Relation.{relation}
use Rattle.cd_taxonomy.proofs.hierarchy.groups.Given as goal

abbrev pub invariant-loop-r : goal.invariant-loop-r
invariant-loop-r l = l.groups.items ≡ map (group_at l.tables.document.now.classes (relation l.tables.above.now)) (take l.r-index l.representatives)
