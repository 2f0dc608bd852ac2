-- Finite interpretations are enough: those of the axioms of a list that hold over a domain hold in a finite interpretation, whose
-- elements are the kinds of elements that the expressions of the axioms tell apart.
use Rattle.std.proofs.Common.{◌≡◌, ◌<◌, ◌≤◌, ◌+◌, ℕ, suc, true, IsTrue, All, List, [], ◌∷◌, ◌++◌, refl, sym, subst, ◌∙◌, inl, inr, arith}
use Rattle.std.specs.List.{AllByRecursion}
use Rattle.std.proofs.lemmas.Bool.{false≢true}
use Rattle.cd_base.specs.Lists.{OneOf, Within}
use Rattle.cd_base.proofs.Members.{all_of_member, all_from_member, true_or_false}
use Rattle.cd_meaning.specs.declared.expression.Expr.{Expr}
use Rattle.cd_meaning.specs.declared.expression.Expr.TheVariants.{Name, Meet, Join, Minus, SomeOf, AllOf}
use Rattle.cd_meaning.specs.declared.expression.Axiom.{Axiom}
use Rattle.cd_meaning.specs.declared.expression.Axiom.TheVariants.{SubClass, SameClasses, Disjoint, DisjointUnion, SubRole, SameRoles, Domain, Range}
use Rattle.cd_meaning.specs.declared.interpretation.Edge.{Edge}
use Rattle.cd_meaning.specs.AnyDomain.{Structure, IsBelowOver, HasSameMembersOver, IsDistinctlyApartOver, IsSubRoleOver, HasSameEdgesOver, HoldsOver, EntailsOver, Elements, FiniteIsEnough}
use Rattle.cd_meaning.specs.Entailment.{Entails}
use Rattle.cd_meaning.specs.Induction.{induct}
use Rattle.cd_meaning.specs.Membership.{member}
use Rattle.cd_meaning.specs.Truth.{has_edge, EachEdge, IsBelow, EveryTwo, HasSameMembers, IsDistinctlyApart, HasSameEdges, IsSubRole, Holds}
use Rattle.cd_meaning.proofs.Edges.{edge_from}
use Rattle.cd_meaning.proofs.FiniteStructure.{below, axiom_holds, over}
use Rattle.cd_meaning.proofs.Filtration.{edges, listed_edge, finite, goes_edge, ends_of, IsKept, kind_member, name_kept, meet_kept, join_kept, minus_kept, some_kept, all_kept}
use Rattle.cd_meaning.proofs.ElementKinds.{kind, kind_below, World, world}
use Rattle.cd_meaning.proofs.Tables.{in_list, every_two, two_of, left_within, right_within}

module _ {D : Type 0} (s : Structure D) where
  -- ---- an axiom that holds over the domain, in a finite interpretation

  module _ (w : World s) where
    -- kept expressions that are below each other over the domain are so in the finite interpretation
    below_finite : (c d : Expr) → IsKept w c → IsKept w d → IsBelowOver s c d → IsBelow (finite w) c d
    below_finite c d kc kd h i il m = kd.0 i il ∙ h (w.stands i) (sym (kc.0 i il) ∙ m)

    -- those that have the same members over the domain have so there
    same_finite : (c d : Expr) → IsKept w c → IsKept w d → HasSameMembersOver s c d → HasSameMembers (finite w) c d
    same_finite c d kc kd h = (below_finite c d kc kd h.0, below_finite d c kd kc h.1)

    -- those that are apart over the domain are so there
    apart_finite : (c d : Expr) → IsKept w c → IsKept w d → IsDistinctlyApartOver s c d → IsDistinctlyApart (finite w) c d
    apart_finite c d kc kd h differ i il m n = h differ (w.stands i) (sym (kc.0 i il) ∙ m) (sym (kd.0 i il) ∙ n)

    -- what holds of each listed edge of r
    each_from : (r : ℕ) (P : Edge → Type 0) → ((e : Edge) → OneOf e (edges w) → e.role ≡ r → P e) → EachEdge (finite w) r P
    each_from r P = all_from_member (λ (e : Edge). e.role ≡ r → P e) (edges w)

    -- a role that is below another over the domain is so there
    role_finite : (r t : ℕ) → t < w.bound → IsSubRoleOver s r t → IsSubRole (finite w) r t
    role_finite r t tl h = each_from r (λ e. IsTrue (has_edge (finite w) t e.source e.target)) (λ e m q.
        let l = ends_of w e r m q in
        let k = listed_edge w e m in
        let listed = goes_edge w t e.source e.target tl k.source k.target (l.0, l.1, l.2, l.3, h l.0 l.1 l.4) in
        edge_from (finite w) (record { role = t; source = e.source; target = e.target }) t e.source e.target listed refl refl refl)

    -- each expression of the list is kept
    abbrev AllKept : List Expr → Type 0
    AllKept l = AllByRecursion (IsKept w) l

    -- every two of a list that have the same members over the domain have so there
    same_all : (l : List Expr) → AllKept l → EveryTwo (HasSameMembersOver s) l → EveryTwo (HasSameMembers (finite w)) l
    same_all l kept h = every_two (HasSameMembers (finite w)) l (λ c d mc md.
        same_finite c d (in_list (IsKept w) l kept c mc) (in_list (IsKept w) l kept d md)
        (two_of (HasSameMembersOver s) l h c d mc md))

    -- every two of a list that are apart over the domain are so there
    apart_all : (l : List Expr) → AllKept l → EveryTwo (IsDistinctlyApartOver s) l → EveryTwo (IsDistinctlyApart (finite w)) l
    apart_all l kept h = every_two (IsDistinctlyApart (finite w)) l (λ c d mc md.
        apart_finite c d (in_list (IsKept w) l kept c mc) (in_list (IsKept w) l kept d md)
        (two_of (IsDistinctlyApartOver s) l h c d mc md))

    -- each role of the list is below the bound
    abbrev HasAll : List ℕ → Type 0
    HasAll l = (r : ℕ) → OneOf r l → r < w.bound

    -- every two roles of a list that have the same edges over the domain have so there
    roles_all : (l : List ℕ) → HasAll l → EveryTwo (HasSameEdgesOver s) l → EveryTwo (HasSameEdges (finite w)) l
    roles_all l few h = every_two (HasSameEdges (finite w)) l (λ r t mr mt.
        let k = two_of (HasSameEdgesOver s) l h r t mr mt in
        (role_finite r t (few t mt) k.0, role_finite t r (few r mr) k.1))

    -- the domain of a role is one there
    domain_finite : (r : ℕ) (c : Expr) → IsKept w c → HoldsOver s (Domain r c) → Holds (finite w) (Domain r c)
    domain_finite r c kept h = each_from r (λ e. IsTrue (member (finite w) c e.source)) (λ e m q.
        let l = ends_of w e r m q in
        kept.0 e.source (listed_edge w e m).source ∙ sym (kept.1 l.0 (w.stands e.source) l.2) ∙ h l.0 l.1 l.4)

    -- the range of a role is one there
    range_finite : (r : ℕ) (c : Expr) → IsKept w c → HoldsOver s (Range r c) → Holds (finite w) (Range r c)
    range_finite r c kept h = each_from r (λ e. IsTrue (member (finite w) c e.target)) (λ e m q.
        let l = ends_of w e r m q in
        kept.0 e.target (listed_edge w e m).target ∙ sym (kept.1 l.1 (w.stands e.target) l.3) ∙ h l.0 l.1 l.4)

  -- ---- what must be told apart

  -- the world tells these expressions apart, and has the classes and roles below `least`
  record Tells (need : List Expr) (least : ℕ) (w : World s) : Type 0 where
    apart : Within need w.told
    enough : least ≤ w.bound

  -- P holds of each world that tells enough apart
  record Needs (P : World s → Type 0) : Type 0 where
    need : List Expr
    least : ℕ
    gives : (w : World s) → Tells need least w → P w

  -- what holds of each world needs nothing
  nothing_needed : (P : World s → Type 0) → ((w : World s) → P w) → Needs P
  nothing_needed P h = record { need = []; least = 0; gives = λ w t. h w }

  -- what follows from a fact needs what the fact needs
  follows : (P Q : World s → Type 0) → ((w : World s) → P w → Q w) → Needs P → Needs Q
  follows P Q h n = record { need = n.need; least = n.least; gives = λ w t. h w (n.gives w t) }

  -- two facts need what either needs
  both : (P Q : World s → Type 0) → Needs P → Needs Q → Needs (λ w. P w × Q w)
  both P Q n m = record {
    need = n.need ++ m.need;
    least = n.least + m.least;
    gives = λ w t. let e = t.enough in (
      n.gives w (record { apart = left_within n.need m.need w.told t.apart; enough = omega arith }),
      m.gives w (record { apart = right_within n.need m.need w.told t.apart; enough = omega arith }),
    );
  }

  -- a number is below the bound of the world
  abbrev Has : ℕ → World s → Type 0
  Has n w = n < w.bound

  -- a number asks for as high a bound
  has_number : (n : ℕ) → Needs (Has n)
  has_number n = record { need = []; least = suc n; gives = λ w t. let e = t.enough in omega arith }

  -- the expression is one of those that the world tells apart
  tells : (e : Expr) → Needs (λ w. OneOf e w.told)
  tells e = record { need = e ∷ []; least = 0; gives = λ w t. t.apart e (inl refl) }

  -- so do the numbers of a list
  all_numbers : (l : List ℕ) → Needs (λ w. HasAll w l)
  all_numbers [] = nothing_needed (λ w. HasAll w []) (λ w r m. absurd m)
  all_numbers (n ∷ l) = follows (λ w. Has n w × HasAll w l) (λ w. HasAll w (n ∷ l)) one_more
      (both (Has n) (λ w. HasAll w l) (has_number n) (all_numbers l))
    where
      one_more : (w : World s) → Has n w × HasAll w l → HasAll w (n ∷ l)
      one_more w h r (inl e) = subst (λ z. z < w.bound) (sym e) h.0
      one_more w h r (inr m) = h.1 r m

  -- ---- each expression is kept where enough is told apart

  -- the expression is kept where enough is told apart
  abbrev Ready : Expr → Type 0
  Ready e = Needs (λ w. IsKept w e)

  -- a list of such expressions
  ready_list : (l : List Expr) → AllByRecursion Ready l → Needs (λ w. AllKept w l)
  ready_list [] h = nothing_needed (λ w. AllKept w []) (λ w. tt)
  ready_list (e ∷ l) h = follows (λ w. IsKept w e × AllKept w l) (λ w. AllKept w (e ∷ l)) (λ w k. k)
      (both (λ w. IsKept w e) (λ w. AllKept w l) h.0 (ready_list l h.1))

  -- a form that a quantifier makes, from what it needs of its own and its part
  ready_quantifier : (r : ℕ) (e d : Expr) → ((w : World s) → Has r w → OneOf d w.told → IsKept w e → IsKept w d) → Ready e → Ready d
  ready_quantifier r e d h ready_e =
      follows (λ w. (Has r w × OneOf d w.told) × IsKept w e) (λ w. IsKept w d) (λ w k. h w k.0.0 k.0.1 k.1)
      (both (λ w. Has r w × OneOf d w.told) (λ w. IsKept w e) (both (Has r) (λ w. OneOf d w.told) (has_number r) (tells d)) ready_e)

  -- each expression is such
  ready : (e : Expr) → Ready e
  ready = induct Ready
      (λ c. follows (λ w. Has c w × OneOf (Name c) w.told) (λ w. IsKept w (Name c)) (λ w k. name_kept w c k.0 k.1)
      (both (Has c) (λ w. OneOf (Name c) w.told) (has_number c) (tells (Name c))))
      (λ l h. follows (λ w. AllKept w l) (λ w. IsKept w (Meet l)) (λ w. meet_kept w l) (ready_list l h))
      (λ l h. follows (λ w. AllKept w l) (λ w. IsKept w (Join l)) (λ w. join_kept w l) (ready_list l h))
      (λ e h. follows (λ w. IsKept w e) (λ w. IsKept w (Minus e)) (λ w. minus_kept w e) h)
      (λ r e. ready_quantifier r e (SomeOf r e) (λ w. some_kept w r e))
      (λ r e. ready_quantifier r e (AllOf r e) (λ w. all_kept w r e))

  -- each list of expressions is such
  ready_all : (l : List Expr) → Needs (λ w. AllKept w l)
  ready_all l = ready_list l (each l)
    where
      each : (l : List Expr) → AllByRecursion Ready l
      each [] = tt
      each (e ∷ l) = (ready e, each l)

  -- ---- each axiom moves where enough is told apart

  -- where it holds over the domain, it holds in the finite interpretation
  abbrev Moves : Axiom → World s → Type 0
  Moves a w = HoldsOver s a → Holds (finite w) a

  -- each axiom moves where enough is told apart
  moves : (a : Axiom) → Needs (Moves a)
  moves (SubClass c d) = follows (λ w. IsKept w c × IsKept w d) (Moves (SubClass c d)) (λ w k. below_finite w c d k.0 k.1)
      (both (λ w. IsKept w c) (λ w. IsKept w d) (ready c) (ready d))
  moves (SameClasses l) = follows (λ w. AllKept w l) (Moves (SameClasses l)) (λ w. same_all w l) (ready_all l)
  moves (Disjoint l) = follows (λ w. AllKept w l) (Moves (Disjoint l)) (λ w. apart_all w l) (ready_all l)
  moves (DisjointUnion a l) = follows (λ w. IsKept w (Name a) × AllKept w l) (Moves (DisjointUnion a l))
      (λ w k h. (same_finite w (Name a) (Join l) k.0 (join_kept w l k.1) h.0, apart_all w l k.1 h.1))
      (both (λ w. IsKept w (Name a)) (λ w. AllKept w l) (ready (Name a)) (ready_all l))
  moves (SubRole r t) = follows (Has t) (Moves (SubRole r t)) (λ w. role_finite w r t) (has_number t)
  moves (SameRoles l) = follows (λ w. HasAll w l) (Moves (SameRoles l)) (λ w. roles_all w l) (all_numbers l)
  moves (Domain r c) = follows (λ w. IsKept w c) (Moves (Domain r c)) (λ w. domain_finite w r c) (ready c)
  moves (Range r c) = follows (λ w. IsKept w c) (Moves (Range r c)) (λ w. range_finite w r c) (ready c)

  -- each axiom of the list moves
  abbrev AllMove : List Axiom → World s → Type 0
  AllMove l w = (a : Axiom) → OneOf a l → Moves a w

  -- each list of axioms moves
  moves_all : (l : List Axiom) → Needs (AllMove l)
  moves_all [] = nothing_needed (AllMove []) (λ w a m. absurd m)
  moves_all (a ∷ l) = follows (λ w. Moves a w × AllMove l w) (AllMove (a ∷ l)) one_more
      (both (Moves a) (AllMove l) (moves a) (moves_all l))
    where
      one_more : (w : World s) → Moves a w × AllMove l w → AllMove (a ∷ l) w
      one_more w h c (inl e) = subst (λ z. Moves z w) (sym e) h.0
      one_more w h c (inr m) = h.1 c m

  -- ---- so what is entailed over finite interpretations is entailed over the domain

  -- in the finite interpretation the axioms hold, and a and b are kept
  record Serves (axioms : List Axiom) (a b : ℕ) (w : World s) : Type 0 where
    moved : AllMove axioms w
    first : IsKept w (Name a)
    second : IsKept w (Name b)

  -- enough for these axioms and these two classes
  serves : (axioms : List Axiom) (a b : ℕ) → Needs (Serves axioms a b)
  serves axioms a b = follows (λ w. AllMove axioms w × (IsKept w (Name a) × IsKept w (Name b))) (Serves axioms a b)
      (λ w k. record { moved = k.0; first = k.1.0; second = k.1.1 })
      (both (AllMove axioms) (λ w. IsKept w (Name a) × IsKept w (Name b)) (moves_all axioms)
      (both (λ w. IsKept w (Name a)) (λ w. IsKept w (Name b)) (ready (Name a)) (ready (Name b))))

  -- in one world: an element of a is one of b, since the number of its kind is
  here : (axioms : List Axiom) (a b : ℕ) → Entails axioms a b → All (HoldsOver s) axioms → (w : World s) → Serves axioms a b w
      → (x : D) → s.has (Name a) x ≡ true → s.has (Name b) x ≡ true
  here axioms a b entails holds w serve x isin =
      let k : ℕ = kind s w.told x in
      let model = all_from_member (Holds (finite w)) axioms (λ c m. serve.moved c m (all_of_member (HoldsOver s) axioms holds c m)) in
      sym (kind_member w (Name b) serve.second x)
      ∙ entails (finite w) model k (kind_below s w.told x) (kind_member w (Name a) serve.first x ∙ isin)

  -- what is entailed over finite interpretations is entailed over the domain. Whether x is in b is a test, so it is enough that a world
  -- can't be refuted
  entailed_over : (axioms : List Axiom) (a b : ℕ) → Entails axioms a b → All (HoldsOver s) axioms → IsBelowOver s (Name a) (Name b)
  entailed_over axioms a b entails holds x isin =
      let n = serves axioms a b in
      elim (true_or_false (s.has (Name b) x)) [
        | inl t ↦ t
        | inr f ↦ absurd (world s n.least n.need (λ w is_bound is_told.
            let tells : Tells n.need n.least w = record {
              apart = λ e m. subst (λ es. OneOf e es) (sym is_told) m;
              enough = omega (arith, is_bound);
            } in
            false≢true (sym f ∙ here axioms a b entails holds w (n.gives w tells) x isin)))
      ]

-- ---- and back

-- what is entailed over every finite domain is entailed over finite interpretations
entailed_finite : (axioms : List Axiom) (a b : ℕ) → ((n : ℕ) → EntailsOver (Elements n) axioms a b) → Entails axioms a b
entailed_finite axioms a b every i holds =
    (below i (Name a) (Name b)).1 (every i.size (over i) (all_from_member (HoldsOver (over i)) axioms (λ c m.
    (axiom_holds i c).0 (all_of_member (Holds i) axioms holds c m))))

-- finite interpretations are enough
pub finite_is_enough : (D : Type 0) → FiniteIsEnough D
finite_is_enough D axioms a b = (
  λ entails. (λ s. entailed_over s axioms a b entails, λ n s. entailed_over s axioms a b entails),
  λ h. entailed_finite axioms a b h.1,
)
