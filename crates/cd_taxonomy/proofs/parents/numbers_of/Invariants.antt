use Rattle.std.proofs.Common.{◌≡◌, map, take, slice_index}
use Rattle.cd_taxonomy.proofs.parents.numbers_of.Given as goal

abbrev pub invariant-loop-d : goal.invariant-loop-d
invariant-loop-d l = l.found.items ≡ map (slice_index l.numbers) (take l.d-index l.classes)
