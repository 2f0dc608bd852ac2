-- The canonical interpretation, from what it lists.
use Rattle.std.proofs.Common.{◌≡◌, ◌==◌, ◌&&◌, ℕ, ◌<◌, true, refl, subst, eqb-true, eq-eqb}
use Rattle.std.proofs.lemmas.Bool.{and_parts, and_from}
use Rattle.cd_base.specs.Lists.{OneOf}
use Rattle.cd_base.specs.declared.normal.Normal.{Normal}
use Rattle.cd_base.proofs.Members.{any_member, any_by_member, all_member, all_from_member}
use Rattle.cd_meaning.specs.declared.interpretation.Edge.{Edge}
use Rattle.cd_meaning.specs.declared.interpretation.Interpretation.{Interpretation}
use Rattle.cd_meaning.specs.declared.interpretation.Member.{Member as Pair}
use Rattle.cd_meaning.specs.Truth.{has_edge}
use Rattle.cd_meaning.specs.NormalAxioms.{n1, n2, n3, n4, n5, in_atom, IsNormalModel}
use Rattle.cd_meaning.proofs.Edges.{edge_of, edge_from}
use Rattle.cd_model.specs.Meaning.{IsIn}
use Rattle.cd_model.specs.Canonical.{Listing, canonical, Completeness}
use Rattle.cd_model.proofs.Listings.{Is, Goes, InRange, Holds, IsListedModel}
use Rattle.cd_model.proofs.Model.{complete}

module _ (l : Listing) (r : InRange l) where
  -- the interpretation of what is listed
  abbrev pub shown : Interpretation
  shown = record {
    size = l.size;
    classes = l.members;
    roles = l.edges;
    inhabited = r.some;
    members = all_from_member (λ (m : Pair). m.element < l.size) l.members (λ m k. r.elements m.class m.element k);
    sources = all_from_member (λ (e : Edge). e.source < l.size) l.edges (λ e k. r.sources e.role e.source e.target k);
    targets = all_from_member (λ (e : Edge). e.target < l.size) l.edges (λ e k. r.targets e.role e.source e.target k);
  }

  pub is_in : (a x : ℕ) → Is l a x → IsIn shown a x
  is_in a x m = any_by_member (λ (m : Pair). m.class == a && m.element == x) l.members (record { class = a; element = x }) m
      (and_from (a == a) (x == x) (eq-eqb a a refl) (eq-eqb x x refl))

  pub in_is : (a x : ℕ) → IsIn shown a x → Is l a x
  in_is a x h =
      let w = any_member (λ (m : Pair). m.class == a && m.element == x) l.members h in
      let p = and_parts (w.0.class == a) (w.0.element == x) w.2 in
      let e : w.0 ≡ record { class = a; element = x } = λ i. record { class = eqb-true w.0.class a p.0 i; element = eqb-true w.0.element x p.1 i } in
      subst (λ z. OneOf z l.members) e w.1

  pub goes_edge : (s x y : ℕ) → Goes l s x y → has_edge shown s x y ≡ true
  goes_edge s x y m = edge_from shown (record { role = s; source = x; target = y }) s x y m refl refl refl

  pub edge_goes : (s x y : ℕ) → has_edge shown s x y ≡ true → Goes l s x y
  edge_goes s x y h =
      let w = edge_of shown s x y h in
      let e : w.0 ≡ record { role = s; source = x; target = y } = λ i. record { role = w.2 i; source = w.3 i; target = w.4 i } in
      subst (λ z. OneOf z l.edges) e w.1

  pub shown_holds : (n : Normal) → Holds n l → IsNormalModel n shown
  shown_holds n h (n1 c) m = λ x lt t.
      let w = h.n1 c m x lt (λ a k. in_is a x (all_member (λ a. in_atom shown a x) c.left t a k)) in
      any_by_member (λ b. in_atom shown b x) c.right w.0 w.1 (is_in w.0 x w.2)
  shown_holds n h (n2 t) m = λ x lt i. let w = h.n2 t m x (in_is t.atom x i) in (w.0, goes_edge t.role x w.0 w.1, is_in t.other w.0 w.2)
  shown_holds n h (n3 t) m = λ x y g i. is_in t.other x (h.n3 t m x y (edge_goes t.role x y g) (in_is t.atom y i))
  shown_holds n h (n4 t) m = λ x y g i. is_in t.other y (h.n4 t m x y (in_is t.atom x i) (edge_goes t.role x y g))
  shown_holds n h (n5 p) m = λ x y g. goes_edge p.higher x y (h.n5 p m x y (edge_goes p.lower x y g))

pub completeness : Completeness
completeness n below closure roles keys live sat start start_open =
    let l : Listing = canonical n below keys live in
    let c : IsListedModel n l keys live = complete n below closure roles keys live sat start start_open in (
      shown l c.range,
      record { size = refl; members = refl; edges = refl },
      record {
        holds = shown_holds l c.range n c.holds;
        element = λ k o. let e = c.element k o in (
          e.x,
          record {
            below = e.below;
            meets = record { plains = λ a m. is_in l c.range a e.x (e.plains a m); negateds = λ a m i. e.negateds a m (in_is l c.range a e.x i) };
            chosen = λ a i. e.only_chosen a (in_is l c.range a e.x i);
          },
        );
      },
    )
