use Rattle.std.proofs.Common.{take}
use Rattle.std.specs.List.{All}
use Rattle.cd_meaning.specs.Truth.{HasSameEdges}
use Rattle.cd_meaning.proofs.truth.has_edges_of_each.Given as goal

abbrev pub invariant-loop-role : goal.invariant-loop-role
invariant-loop-role l = All (HasSameEdges l.i l.first) (take l.role-index l.roles)
