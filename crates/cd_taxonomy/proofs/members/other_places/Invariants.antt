use Rattle.std.proofs.Common.{◌≡◌, map, take, filter, slice_index}
use Rattle.cd_taxonomy.proofs.MembersByPlace.{is_other_member}
use Rattle.cd_taxonomy.proofs.members.other_places.Given as goal

abbrev pub invariant-loop-c : goal.invariant-loop-c
invariant-loop-c l = l.found.items ≡ map (slice_index l.places) (filter (is_other_member l.counts l.r) (take l.c-index l.row))
