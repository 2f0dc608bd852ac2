use Rattle.std.proofs.Common.{◌≡◌, IsTrue, take}
use Rattle.std.specs.List.{All}
use Rattle.cd_meaning.specs.Truth.{has_edge}
use Rattle.cd_meaning.proofs.truth.are_edges_of.Given as goal

abbrev pub invariant-loop-edge : goal.invariant-loop-edge
invariant-loop-edge l = All (λ edge. edge.role ≡ l.lower → IsTrue (has_edge l.i l.upper edge.source edge.target)) (take l.edge-index l.edges)
