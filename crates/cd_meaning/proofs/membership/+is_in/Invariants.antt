use Rattle.std.proofs.Common.{◌≡◌, true, false, take}
use Rattle.std.specs.List.{list_all, list_any}
use Rattle.cd_meaning.specs.Membership.{leads, keeps, member}
use Rattle.cd_meaning.proofs.membership.+is_in.Given as goal

abbrev pub invariant-has_edge_into-loop-edge : goal.invariant-has_edge_into-loop-edge
invariant-has_edge_into-loop-edge l = list_any (leads l.role l.element (member l.i l.part)) (take l.edge-index l.i.roles) ≡ false

abbrev pub invariant-has_edges_into-loop-edge : goal.invariant-has_edges_into-loop-edge
invariant-has_edges_into-loop-edge l = list_all (keeps l.role l.element (member l.i l.part)) (take l.edge-index l.i.roles) ≡ true

abbrev pub invariant-is_in_each-loop-part : goal.invariant-is_in_each-loop-part
invariant-is_in_each-loop-part l = list_all (λ part. member l.i part l.element) (take l.part-index l.parts) ≡ true

abbrev pub invariant-is_in_one-loop-part : goal.invariant-is_in_one-loop-part
invariant-is_in_one-loop-part l = list_any (λ part. member l.i part l.element) (take l.part-index l.parts) ≡ false
