-- The worked family: what its definitions say is computed, once each expression of it has a test that computes.
use Rattle.std.proofs.Common.{◌≡◌, ◌≢◌, ◌<◌, ◌↔◌, ◌==◌, ◌&&◌, ◌||◌, ℕ, zero, suc, Bool, true, false, not, cond, IsTrue, List, [], ◌∷◌, refl, sym, ap, ◌∙◌, inl, inr, subst, arith, eq-eqb, eqb-true}
use Rattle.std.specs.List.{list_all, list_any}
use Rattle.std.proofs.lemmas.Bool.{and_parts, and_from, false≢true}
use Rattle.cd_base.specs.Lists.{OneOf}
use Rattle.cd_base.proofs.Members.{all_member, all_by_member, all_of_member, all_from_member}
use Rattle.cd_meaning.specs.declared.expression.Expr.{Expr}
use Rattle.cd_meaning.specs.declared.expression.Expr.TheVariants.{Name, Meet, Join, Minus, SomeOf, AllOf}
use Rattle.cd_meaning.specs.declared.interpretation.Edge.{Edge}
use Rattle.cd_meaning.specs.Membership.{class_has, goes, leads, keeps, member}
use Rattle.cd_meaning.specs.MembershipTable.{member-Name, member-Meet, member-Join, member-Minus, member-SomeOf, member-AllOf}
use Rattle.cd_meaning.specs.Truth.{has_edge, EachEdge, IsBelow, IsDistinctlyApart, HasSameMembers, IsSubRole, IsDomain, IsRange, HasSameEdges, EveryTwo}
use Rattle.cd_meaning.specs.Worked.{ann, bob, edges, family, elements_of}
use Rattle.cd_meaning.proofs.Edges.{edge_from}
use Rattle.cd_meaning.proofs.Tables.{all_same, any_same, every_two, two_of, keeps_or, or_keeps}

-- ---- expressions

-- a test for the elements of an expression
pub record Tested (e : Expr) : Type 0 where
  pub test : ℕ → Bool
  pub same : (x : ℕ) → member family e x ≡ test x

-- the test of a named class
abbrev pub name : (c : ℕ) → Tested (Name c)
name c = record { test = class_has family c; same = λ x. member-Name family x c }

-- the test of an intersection of two
abbrev pub meet : (c d : Expr) → Tested c → Tested d → Tested (Meet (c ∷ d ∷ []))
meet c d s t = record {
  test = λ x. s.test x && (t.test x && true);
  same = λ x. member-Meet family x (c ∷ d ∷ [])
      ∙ ap (λ b. b && (member family d x && true)) (s.same x)
      ∙ ap (λ b. s.test x && (b && true)) (t.same x);
}

-- the test of a union of two
abbrev pub join : (c d : Expr) → Tested c → Tested d → Tested (Join (c ∷ d ∷ []))
join c d s t = record {
  test = λ x. s.test x || (t.test x || false);
  same = λ x. member-Join family x (c ∷ d ∷ [])
      ∙ ap (λ b. b || (member family d x || false)) (s.same x)
      ∙ ap (λ b. s.test x || (b || false)) (t.same x);
}

-- the test of a complement
abbrev pub minus : (c : Expr) → Tested c → Tested (Minus c)
minus c s = record { test = λ x. not (s.test x); same = λ x. member-Minus family x c ∙ ap not (s.same x) }

-- the test of an existential
abbrev pub some : (r : ℕ) (c : Expr) → Tested c → Tested (SomeOf r c)
some r c s = record {
  test = λ x. list_any (leads r x s.test) edges;
  same = λ x. member-SomeOf family x r c
      ∙ any_same (leads r x (member family c)) (leads r x s.test) edges (λ e m. ap (λ b. goes e r x && b) (s.same e.target));
}

-- the test of a universal
abbrev pub all : (r : ℕ) (c : Expr) → Tested c → Tested (AllOf r c)
all r c s = record {
  test = λ x. list_all (keeps r x s.test) edges;
  same = λ x. member-AllOf family x r c
      ∙ all_same (keeps r x (member family c)) (keeps r x s.test) edges (λ e m. ap (λ b. not (goes e r x) || b) (s.same e.target));
}

-- which of the two elements pass
abbrev pub listed : Bool → Bool → List ℕ
listed a b = cond a (ann ∷ cond b (bob ∷ []) []) (cond b (bob ∷ []) [])

-- the elements of an expression are those that its test names
pub elements : (e : Expr) (t : Tested e) → elements_of e ≡ listed (t.test ann) (t.test bob)
elements e t = ap (λ b. listed b (member family e bob)) (t.same ann) ∙ ap (λ b. listed (t.test ann) b) (t.same bob)

-- ---- tests of axioms

-- what holds of both elements
each : (P : ℕ → Type 0) → P ann → P bob → (x : ℕ) → x < 2 → P x
each P p q zero lt = p
each P p q (suc zero) lt = q
each P p q (suc (suc x)) lt = absurd (omega arith)

-- each element of the first is one of the second
abbrev pub within : (ℕ → Bool) → (ℕ → Bool) → Bool
within f g = (not (f ann) || g ann) && (not (f bob) || g bob)

-- an expression is below another exactly if its test is within the other's
pub below : (c d : Expr) (s : Tested c) (t : Tested d) → IsTrue (within s.test t.test) ↔ IsBelow family c d
below c d s t = (there, back)
  where
    step : (x : ℕ) → (not (s.test x) || t.test x) ≡ true → IsTrue (member family c x) → IsTrue (member family d x)
    step x k h = t.same x ∙ or_keeps (s.test x) (t.test x) k (sym (s.same x) ∙ h)

    there : IsTrue (within s.test t.test) → IsBelow family c d
    there h =
        let p = and_parts (not (s.test ann) || t.test ann) (not (s.test bob) || t.test bob) h in
        each (λ x. IsTrue (member family c x) → IsTrue (member family d x)) (step ann p.0) (step bob p.1)

    kept : (x : ℕ) → x < 2 → IsBelow family c d → (not (s.test x) || t.test x) ≡ true
    kept x lt h = keeps_or (s.test x) (t.test x) (λ k. sym (t.same x) ∙ h x lt (s.same x ∙ k))

    back : IsBelow family c d → IsTrue (within s.test t.test)
    back h = and_from (not (s.test ann) || t.test ann) (not (s.test bob) || t.test bob) (kept ann (omega arith) h) (kept bob (omega arith) h)

-- no element is in both
abbrev pub parted : (ℕ → Bool) → (ℕ → Bool) → Bool
parted f g = (not (f ann) || not (g ann)) && (not (f bob) || not (g bob))

-- expressions whose tests have nothing in common are apart
pub apart : (c d : Expr) (s : Tested c) (t : Tested d) → parted s.test t.test ≡ true → IsDistinctlyApart family c d
apart c d s t h differ = each (λ x. IsTrue (member family c x) → IsTrue (member family d x) → ⊥) (step ann p.0) (step bob p.1)
  where
    p : ((not (s.test ann) || not (t.test ann)) ≡ true) × ((not (s.test bob) || not (t.test bob)) ≡ true)
    p = and_parts (not (s.test ann) || not (t.test ann)) (not (s.test bob) || not (t.test bob)) h

    both : (a b : Bool) → (not a || not b) ≡ true → a ≡ true → b ≡ true → ⊥
    both a b k ta tb = false≢true (sym (ap not tb) ∙ or_keeps a (not b) k ta)

    step : (x : ℕ) → (not (s.test x) || not (t.test x)) ≡ true → IsTrue (member family c x) → IsTrue (member family d x) → ⊥
    step x k m n = both (s.test x) (t.test x) k (sym (s.same x) ∙ m) (sym (t.same x) ∙ n)

-- an expression is apart from itself, as one operand
pub apart_itself : (c : Expr) → IsDistinctlyApart family c c
apart_itself c differ = absurd (differ refl)

-- whether something holds of every edge of r, from a test of edges
abbrev pub of_each : ℕ → (Edge → Bool) → Bool
of_each r g = list_all (λ e. not (e.role == r) || g e) edges

-- it says so exactly if that holds of every edge of r
pub each_edge : (r : ℕ) (f g : Edge → Bool) → ((e : Edge) → f e ≡ g e) → IsTrue (of_each r g) ↔ EachEdge family r (λ e. IsTrue (f e))
each_edge r f g same = (there, back)
  where
    there : IsTrue (of_each r g) → EachEdge family r (λ e. IsTrue (f e))
    there h = all_from_member (λ (e : Edge). e.role ≡ r → IsTrue (f e)) edges (λ e m q.
        same e ∙ or_keeps (e.role == r) (g e) (all_member (λ (e : Edge). not (e.role == r) || g e) edges h e m) (eq-eqb e.role r q))

    back : EachEdge family r (λ e. IsTrue (f e)) → IsTrue (of_each r g)
    back h = all_by_member (λ (e : Edge). not (e.role == r) || g e) edges (λ e m. keeps_or (e.role == r) (g e) (λ t.
        sym (same e) ∙ all_of_member (λ (e : Edge). e.role ≡ r → IsTrue (f e)) edges h e m (eqb-true e.role r t)))

-- a role is below another exactly if each edge passes the test for that
pub sub_role : (r t : ℕ) → IsTrue (of_each r (λ e. has_edge family t e.source e.target)) ↔ IsSubRole family r t
sub_role r t = each_edge r (λ e. has_edge family t e.source e.target) (λ e. has_edge family t e.source e.target) (λ e. refl)

-- an expression is the domain of a role exactly if the source of each edge passes its test
pub domain : (r : ℕ) (c : Expr) (s : Tested c) → IsTrue (of_each r (λ e. s.test e.source)) ↔ IsDomain family r c
domain r c s = each_edge r (λ e. member family c e.source) (λ e. s.test e.source) (λ e. s.same e.source)

-- an expression is the range of a role exactly if the target of each edge passes its test
pub range : (r : ℕ) (c : Expr) (s : Tested c) → IsTrue (of_each r (λ e. s.test e.target)) ↔ IsRange family r c
range r c s = each_edge r (λ e. member family c e.target) (λ e. s.test e.target) (λ e. s.same e.target)

-- a relation that is as a test says does not hold where the test fails
pub refuted : {P : Type 0} (b : Bool) → IsTrue b ↔ P → b ≡ false → P → ⊥
refuted b same e p = false≢true (sym e ∙ same.1 p)

-- every two of a list of two
pub of_two : {X : Type 0} (R : X → X → Type 0) (c d : X) → R c c → R c d → R d c → R d d → EveryTwo R (c ∷ d ∷ [])
of_two {X = X} R c d first cd dc second = every_two R (c ∷ d ∷ []) step
  where
    step : (x y : X) → OneOf x (c ∷ d ∷ []) → OneOf y (c ∷ d ∷ []) → R x y
    step x y (inl p) (inl q) = subst (λ z. R z y) (sym p) (subst (R c) (sym q) first)
    step x y (inl p) (inr (inl q)) = subst (λ z. R z y) (sym p) (subst (R c) (sym q) cd)
    step x y (inr (inl p)) (inl q) = subst (λ z. R z y) (sym p) (subst (R d) (sym q) dc)
    step x y (inr (inl p)) (inr (inl q)) = subst (λ z. R z y) (sym p) (subst (R d) (sym q) second)
    step x y (inl p) (inr (inr q)) = absurd q
    step x y (inr (inl p)) (inr (inr q)) = absurd q
    step x y (inr (inr p)) n = absurd p

-- the first and the second of such a list
pub first_two : {X : Type 0} (R : X → X → Type 0) (c d : X) → EveryTwo R (c ∷ d ∷ []) → R c d
first_two R c d h = two_of R (c ∷ d ∷ []) h c d (inl refl) (inr (inl refl))

-- two expressions of which one has an element alone are not one tree
pub differ_at : (c d : Expr) (s : Tested c) (t : Tested d) (x : ℕ) → (s.test x ≡ t.test x → ⊥) → c ≢ d
differ_at c d s t x differ e = differ (sym (s.same x) ∙ ap (λ (z : Expr). member family z x) e ∙ t.same x)

-- two trees with a common element are not apart
pub common : (c d : Expr) (s : Tested c) (t : Tested d) (x : ℕ) → x < 2 → (s.test x && t.test x) ≡ true → c ≢ d
    → EveryTwo (IsDistinctlyApart family) (c ∷ d ∷ []) → ⊥
common c d s t x lt h differ all_apart =
    let p = and_parts (s.test x) (t.test x) h in
    first_two (IsDistinctlyApart family) c d all_apart differ x lt (s.same x ∙ p.0) (t.same x ∙ p.1)

-- ---- lists of two

-- two expressions have the same elements
abbrev pub alike : (ℕ → Bool) → (ℕ → Bool) → Bool
alike f g = within f g && within g f

-- expressions whose tests agree have the same members
pub same_as : (c d : Expr) (s : Tested c) (t : Tested d) → alike s.test t.test ≡ true → HasSameMembers family c d
same_as c d s t h =
    let p = and_parts (within s.test t.test) (within t.test s.test) h in
    ((below c d s t).0 p.0, (below d c t s).0 p.1)

-- two expressions have the same members exactly if their tests agree
pub same_members : (c d : Expr) (s : Tested c) (t : Tested d) → IsTrue (alike s.test t.test) ↔ EveryTwo (HasSameMembers family) (c ∷ d ∷ [])
same_members c d s t = (there, back)
  where
    there : IsTrue (alike s.test t.test) → EveryTwo (HasSameMembers family) (c ∷ d ∷ [])
    there h =
        let p = same_as c d s t h in
        of_two (HasSameMembers family) c d (λ x l m. m, λ x l m. m) p (p.1, p.0) (λ x l m. m, λ x l m. m)

    back : EveryTwo (HasSameMembers family) (c ∷ d ∷ []) → IsTrue (alike s.test t.test)
    back h =
        let p = first_two (HasSameMembers family) c d h in
        and_from (within s.test t.test) (within t.test s.test) ((below c d s t).1 p.0) ((below d c t s).1 p.1)

-- two expressions whose tests have nothing in common are apart
pub all_apart : (c d : Expr) (s : Tested c) (t : Tested d) → parted s.test t.test ≡ true → EveryTwo (IsDistinctlyApart family) (c ∷ d ∷ [])
all_apart c d s t h =
    let one = apart c d s t h in
    of_two (IsDistinctlyApart family) c d (apart_itself c) one (λ differ x l m n. one (λ e. differ (sym e)) x l n m) (apart_itself d)

-- every edge of r is one of t
abbrev pub role_within : ℕ → ℕ → Bool
role_within r t = of_each r (λ e. has_edge family t e.source e.target)

-- two roles have the same edges exactly if their tests say so
pub same_edges : (r t : ℕ) → IsTrue (role_within r t && role_within t r) ↔ EveryTwo (HasSameEdges family) (r ∷ t ∷ [])
same_edges r t = (there, back)
  where
    itself : (q : ℕ) → IsSubRole family q q
    itself q = all_from_member (λ (e : Edge). e.role ≡ q → IsTrue (has_edge family q e.source e.target)) edges (λ e m is_q.
        edge_from family e q e.source e.target m is_q refl refl)

    there : IsTrue (role_within r t && role_within t r) → EveryTwo (HasSameEdges family) (r ∷ t ∷ [])
    there h =
        let p = and_parts (role_within r t) (role_within t r) h in
        let up = (sub_role r t).0 p.0 in
        let down = (sub_role t r).0 p.1 in
        of_two (HasSameEdges family) r t (itself r, itself r) (up, down) (down, up) (itself t, itself t)

    back : EveryTwo (HasSameEdges family) (r ∷ t ∷ []) → IsTrue (role_within r t && role_within t r)
    back h =
        let p = first_two (HasSameEdges family) r t h in
        and_from (role_within r t) (role_within t r) ((sub_role r t).1 p.0) ((sub_role t r).1 p.1)
