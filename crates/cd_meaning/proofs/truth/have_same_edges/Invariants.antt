use Rattle.std.proofs.Common.{take}
use Rattle.std.specs.List.{All}
use Rattle.cd_meaning.specs.Truth.{HasSameEdges}
use Rattle.cd_meaning.proofs.truth.have_same_edges.Given as goal

abbrev pub invariant-loop-role : goal.invariant-loop-role
invariant-loop-role l = All (λ x. All (HasSameEdges l.i x) l.roles) (take l.role-index l.roles)
