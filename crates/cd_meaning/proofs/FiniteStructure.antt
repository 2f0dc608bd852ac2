-- A finite interpretation as a structure over its elements.
use Rattle.std.proofs.Common.{◌≡◌, ◌<◌, ◌↔◌, ◌==◌, ◌&&◌, ℕ, true, IsTrue, refl, sym, subst, ◌∙◌, eq-eqb}
use Rattle.std.proofs.lemmas.Bool.{and_parts, and_from, false≢true}
use Rattle.cd_base.specs.Lists.{OneOf}
use Rattle.cd_base.proofs.Members.{all_by_member, all_member, any_by_member, any_member, all_of_member, all_from_member}
use Rattle.cd_meaning.specs.declared.expression.Expr.{Expr}
use Rattle.cd_meaning.specs.declared.expression.Expr.TheVariants.{Name, Join, SomeOf, AllOf}
use Rattle.cd_meaning.specs.declared.expression.Axiom.{Axiom}
use Rattle.cd_meaning.specs.declared.expression.Axiom.TheVariants.{SubClass, SameClasses, Disjoint, DisjointUnion, SubRole, SameRoles, Domain, Range}
use Rattle.cd_meaning.specs.declared.interpretation.Edge.{Edge}
use Rattle.cd_meaning.specs.declared.interpretation.Interpretation.{Interpretation}
use Rattle.cd_meaning.specs.AnyDomain.{Structure, IsBelowOver, HasSameMembersOver, IsDistinctlyApartOver, IsSubRoleOver, HasSameEdgesOver, HoldsOver, Elements, FiniteIsSome}
use Rattle.cd_meaning.specs.Membership.{goes, leads, keeps, member}
use Rattle.cd_meaning.specs.MembershipTable.{member-Name, member-Meet, member-Join, member-Minus, member-SomeOf, member-AllOf}
use Rattle.cd_meaning.specs.Truth.{has_edge, EachEdge, IsBelow, HasSameMembers, IsDistinctlyApart, HasSameEdges, IsSubRole, Holds}
use Rattle.cd_meaning.proofs.Edges.{edge_of, edge_from}
use Rattle.cd_meaning.proofs.Tables.{every_two_alike, keeps_or, or_keeps}

module _ (i : Interpretation) where
  -- an element of the interpretation
  abbrev Element : Type 0
  Element = Elements i.size

  -- the element is in the expression
  abbrev IsIn : Expr → Element → Type 0
  IsIn e x = IsTrue (member i e x.0)

  -- r has an edge from the first element to the second
  abbrev Joins : ℕ → Element → Element → Type 0
  Joins r x y = IsTrue (has_edge i r x.0 y.0)

  -- ---- edges

  -- the source of an edge is an element
  source_of : (e : Edge) → OneOf e i.roles → e.source < i.size
  source_of e m = all_of_member (λ (e : Edge). e.source < i.size) i.roles i.sources e m

  -- the target of an edge is an element
  target_of : (e : Edge) → OneOf e i.roles → e.target < i.size
  target_of e m = all_of_member (λ (e : Edge). e.target < i.size) i.roles i.targets e m

  -- an edge of r from x passes the test for that
  goes_from : (e : Edge) (r x : ℕ) → e.role ≡ r → e.source ≡ x → goes e r x ≡ true
  goes_from e r x p q = and_from (e.role == r) (e.source == x) (eq-eqb e.role r p) (eq-eqb e.source x q)

  -- a listed edge of r from x joins x to its target
  edge_at : (e : Edge) → OneOf e i.roles → (r x : ℕ) → goes e r x ≡ true → has_edge i r x e.target ≡ true
  edge_at e m r x g = any_by_member (λ (d : Edge). goes d r x && d.target == e.target) i.roles e m
      (and_from (goes e r x) (e.target == e.target) g (eq-eqb e.target e.target refl))

  -- what holds of the listed edges of r holds of every two elements that r joins
  each_edge : (r : ℕ) (P : ℕ → ℕ → Type 0) → EachEdge i r (λ e. P e.source e.target) ↔ ((x y : Element) → Joins r x y → P x.0 y.0)
  each_edge r P = (there, back)
    where
      there : EachEdge i r (λ e. P e.source e.target) → (x y : Element) → Joins r x y → P x.0 y.0
      there h x y g =
          let q = edge_of i r x.0 y.0 g in
          let k = all_of_member (λ (e : Edge). e.role ≡ r → P e.source e.target) i.roles h q.0 q.1 q.2 in
          subst (λ z. P z y.0) q.3 (subst (λ z. P q.0.source z) q.4 k)

      back : ((x y : Element) → Joins r x y → P x.0 y.0) → EachEdge i r (λ e. P e.source e.target)
      back h = all_from_member (λ (e : Edge). e.role ≡ r → P e.source e.target) i.roles (λ e m q.
          h (e.source, source_of e m) (e.target, target_of e m) (edge_from i e r e.source e.target m q refl refl))

  -- ---- quantifiers

  -- an existential has the elements that the standard gives it
  pub some_is : (r : ℕ) (e : Expr) (x : Element) → IsIn (SomeOf r e) x ↔ ((y : Element) × Joins r x y × IsIn e y)
  some_is r e x = (there, back)
    where
      there : IsIn (SomeOf r e) x → (y : Element) × Joins r x y × IsIn e y
      there h =
          let q = any_member (leads r x.0 (member i e)) i.roles (sym (member-SomeOf i x.0 r e) ∙ h) in
          let t = and_parts (goes q.0 r x.0) (member i e q.0.target) q.2 in
          ((q.0.target, target_of q.0 q.1), edge_at q.0 q.1 r x.0 t.0, t.1)

      back : ((y : Element) × Joins r x y × IsIn e y) → IsIn (SomeOf r e) x
      back (y, g, m) =
          let q = edge_of i r x.0 y.0 g in
          let isin : member i e q.0.target ≡ true = subst (λ z. member i e z ≡ true) (sym q.4) m in
          member-SomeOf i x.0 r e ∙ any_by_member (leads r x.0 (member i e)) i.roles q.0 q.1
          (and_from (goes q.0 r x.0) (member i e q.0.target) (goes_from q.0 r x.0 q.2 q.3) isin)

  -- a universal has the elements that the standard gives it
  pub all_is : (r : ℕ) (e : Expr) (x : Element) → IsIn (AllOf r e) x ↔ ((y : Element) → Joins r x y → IsIn e y)
  all_is r e x = (there, back)
    where
      there : IsIn (AllOf r e) x → (y : Element) → Joins r x y → IsIn e y
      there h y g =
          let q = edge_of i r x.0 y.0 g in
          let k = all_member (keeps r x.0 (member i e)) i.roles (sym (member-AllOf i x.0 r e) ∙ h) q.0 q.1 in
          subst (λ z. member i e z ≡ true) q.4 (or_keeps (goes q.0 r x.0) (member i e q.0.target) k (goes_from q.0 r x.0 q.2 q.3))

      back : ((y : Element) → Joins r x y → IsIn e y) → IsIn (AllOf r e) x
      back h = member-AllOf i x.0 r e ∙ all_by_member (keeps r x.0 (member i e)) i.roles (λ q m.
          keeps_or (goes q r x.0) (member i e q.target) (λ g. h (q.target, target_of q m) (edge_at q m r x.0 g)))

  -- ---- the structure

  -- the interpretation over its elements
  abbrev pub over : Structure Element
  over = record {
    inhabited = (0, i.inhabited);
    has = λ e x. member i e x.0;
    edge = λ r x y. has_edge i r x.0 y.0;
    thing = λ x. member-Name i x.0 0;
    nothing = λ x h. false≢true (sym (member-Name i x.0 1) ∙ h);
    meet = λ l x. member-Meet i x.0 l;
    join = λ l x. member-Join i x.0 l;
    minus = λ e x. member-Minus i x.0 e;
    some = some_is;
    all = all_is;
  }

  -- ---- the axioms

  -- a class expression is below the same ones
  pub below : (c d : Expr) → IsBelow i c d ↔ IsBelowOver over c d
  below c d = (λ h x. h x.0 x.1, λ h x l. h (x, l))

  -- it has the same members as the same ones
  same : (c d : Expr) → HasSameMembers i c d ↔ HasSameMembersOver over c d
  same c d = (λ h. ((below c d).0 h.0, (below d c).0 h.1), λ h. ((below c d).1 h.0, (below d c).1 h.1))

  -- it is apart from the same ones
  apart : (c d : Expr) → IsDistinctlyApart i c d ↔ IsDistinctlyApartOver over c d
  apart c d = (λ h n x. h n x.0 x.1, λ h n x l. h n (x, l))

  -- a role is below the same ones
  role_below : (r t : ℕ) → IsSubRole i r t ↔ IsSubRoleOver over r t
  role_below r t = each_edge r (λ x y. IsTrue (has_edge i t x y))

  -- it has the same edges as the same ones
  roles_same : (r t : ℕ) → HasSameEdges i r t ↔ HasSameEdgesOver over r t
  roles_same r t = (λ h. ((role_below r t).0 h.0, (role_below t r).0 h.1), λ h. ((role_below r t).1 h.0, (role_below t r).1 h.1))

  -- the same axioms hold
  pub axiom_holds : (a : Axiom) → Holds i a ↔ HoldsOver over a
  axiom_holds (SubClass c d) = below c d
  axiom_holds (SameClasses l) = every_two_alike (HasSameMembers i) (HasSameMembersOver over) same l
  axiom_holds (Disjoint l) = every_two_alike (IsDistinctlyApart i) (IsDistinctlyApartOver over) apart l
  axiom_holds (DisjointUnion a l) =
      let s = same (Name a) (Join l) in
      let t = every_two_alike (IsDistinctlyApart i) (IsDistinctlyApartOver over) apart l in
      (λ h. (s.0 h.0, t.0 h.1), λ h. (s.1 h.0, t.1 h.1))
  axiom_holds (SubRole r t) = role_below r t
  axiom_holds (SameRoles l) = every_two_alike (HasSameEdges i) (HasSameEdgesOver over) roles_same l
  axiom_holds (Domain r c) = each_edge r (λ x y. IsTrue (member i c x))
  axiom_holds (Range r c) = each_edge r (λ x y. IsTrue (member i c y))

-- every finite interpretation is a structure over its elements
pub finite_is_some : FiniteIsSome
finite_is_some i = record { structure = over i; has = λ e x. refl; edge = λ r x y. refl; holds = axiom_holds i }
