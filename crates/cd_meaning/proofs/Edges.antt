-- Edges and their tests.
use Rattle.std.proofs.Common.{◌≡◌, ◌<◌, ◌==◌, ◌&&◌, ℕ, true, subst, eqb-true, eq-eqb}
use Rattle.std.proofs.lemmas.Bool.{and_parts, and_from}
use Rattle.cd_base.specs.Lists.{OneOf}
use Rattle.cd_base.proofs.Members.{any_member, any_by_member, all_of_member}
use Rattle.cd_meaning.specs.declared.interpretation.Edge.{Edge}
use Rattle.cd_meaning.specs.declared.interpretation.Interpretation.{Interpretation}
use Rattle.cd_meaning.specs.Membership.{goes}
use Rattle.cd_meaning.specs.Truth.{has_edge}

module _ (i : Interpretation) where
  -- an edge, from its test
  pub edge_of : (r x y : ℕ) → has_edge i r x y ≡ true → (edge : Edge) × OneOf edge i.roles × (edge.role ≡ r) × (edge.source ≡ x) × (edge.target ≡ y)
  edge_of r x y h =
      let w = any_member (λ (edge : Edge). goes edge r x && edge.target == y) i.roles h in
      let p = and_parts (goes w.0 r x) (w.0.target == y) w.2 in
      let q = and_parts (w.0.role == r) (w.0.source == x) p.0 in
      (w.0, w.1, eqb-true w.0.role r q.0, eqb-true w.0.source x q.1, eqb-true w.0.target y p.1)

  pub edge_from : (edge : Edge) (r x y : ℕ) → OneOf edge i.roles → edge.role ≡ r → edge.source ≡ x → edge.target ≡ y → has_edge i r x y ≡ true
  edge_from edge r x y m er ex ey = any_by_member (λ (edge : Edge). goes edge r x && edge.target == y) i.roles edge m
      (and_from (goes edge r x) (edge.target == y) (and_from (edge.role == r) (edge.source == x) (eq-eqb edge.role r er) (eq-eqb edge.source x ex)) (eq-eqb edge.target y ey))

  pub source_within : (r x y : ℕ) → has_edge i r x y ≡ true → x < i.size
  source_within r x y h = let w = edge_of r x y h in subst (λ z. z < i.size) w.3 (all_of_member (λ (edge : Edge). edge.source < i.size) i.roles i.sources w.0 w.1)

  pub target_within : (r x y : ℕ) → has_edge i r x y ≡ true → y < i.size
  target_within r x y h = let w = edge_of r x y h in subst (λ z. z < i.size) w.4 (all_of_member (λ (edge : Edge). edge.target < i.size) i.roles i.targets w.0 w.1)
