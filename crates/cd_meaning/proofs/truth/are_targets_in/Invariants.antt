use Rattle.std.proofs.Common.{◌≡◌, IsTrue, take}
use Rattle.std.specs.List.{All}
use Rattle.cd_meaning.specs.Membership.{member}
use Rattle.cd_meaning.proofs.truth.are_targets_in.Given as goal

abbrev pub invariant-loop-edge : goal.invariant-loop-edge
invariant-loop-edge l = All (λ edge. edge.role ≡ l.role → IsTrue (member l.i l.class edge.target)) (take l.edge-index l.edges)
