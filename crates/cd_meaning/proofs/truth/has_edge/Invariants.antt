use Rattle.std.proofs.Common.{◌≡◌, false, take, ◌&&◌, ◌==◌}
use Rattle.std.specs.List.{list_any}
use Rattle.cd_meaning.specs.Membership.{goes}
use Rattle.cd_meaning.proofs.truth.has_edge.Given as goal

abbrev pub invariant-loop-edge : goal.invariant-loop-edge
invariant-loop-edge l = list_any (λ edge. goes edge l.role l.source && edge.target == l.target) (take l.edge-index l.i.roles) ≡ false
