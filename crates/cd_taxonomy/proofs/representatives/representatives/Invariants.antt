use Rattle.std.proofs.Common.{◌≡◌, ◌==◌, filter, take}
use Rattle.cd_meaning.specs.Hierarchy.{representative}
use Rattle.cd_taxonomy.specs.Relation.{relation}
use Rattle.cd_taxonomy.proofs.representatives.representatives.Given as goal

abbrev pub invariant-loop-c : goal.invariant-loop-c
invariant-loop-c l = l.found.items ≡ filter (λ c. representative l.document.classes (relation l.above) c == c) (take l.c-index l.order)
