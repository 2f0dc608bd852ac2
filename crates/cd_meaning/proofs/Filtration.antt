-- The finite interpretation whose elements are the kinds of elements of a domain: a kind is in the same expressions as its elements.
use Rattle.std.proofs.Common.{◌≡◌, ◌<◌, ◌==◌, ◌&&◌, ◌||◌, ℕ, Bool, true, false, not, cond, IsTrue, List, [], ◌∷◌, refl, sym, ap, subst, ◌∙◌, inl, inr, eqb-true, eq-eqb, arith}
use Rattle.std.specs.List.{list_all, list_any, AllByRecursion}
use Rattle.std.proofs.lemmas.Bool.{and_parts, and_from}
use Rattle.cd_base.specs.Lists.{OneOf, collect}
use Rattle.cd_base.proofs.Members.{all_by_member, all_member, any_by_member, any_member, all_from_member, same_tests, member_collect, collect_member, cond_member, member_cond}
use Rattle.cd_meaning.specs.declared.expression.Expr.{Expr}
use Rattle.cd_meaning.specs.declared.expression.Expr.TheVariants.{Name, Meet, Join, Minus, SomeOf, AllOf}
use Rattle.cd_meaning.specs.declared.interpretation.Edge.{Edge}
use Rattle.cd_meaning.specs.declared.interpretation.Member.{Member as Pair}
use Rattle.cd_meaning.specs.declared.interpretation.Interpretation.{Interpretation}
use Rattle.cd_meaning.specs.AnyDomain.{Structure}
use Rattle.cd_meaning.specs.Membership.{goes, leads, keeps, member}
use Rattle.cd_meaning.specs.MembershipTable.{member-Name, member-Meet, member-Join, member-Minus, member-SomeOf, member-AllOf}
use Rattle.cd_meaning.specs.Truth.{has_edge}
use Rattle.cd_meaning.proofs.Edges.{edge_of, edge_from}
use Rattle.cd_meaning.proofs.ElementKinds.{kinds, some_kind, kind, kind_below, same_kind, Linked, World}
use Rattle.cd_meaning.proofs.Tables.{numbers, below_member, member_below, in_list, all_same, any_same, keeps_or, or_keeps, is_false}

-- the test of a named class (all elements, or none, or those listed) from what it is to say
by_class : (z o l h : Bool) → (z ≡ true → h ≡ true) → (o ≡ true → h ≡ false) → l ≡ h → (z || not o && l) ≡ h
by_class true o l h p q r = sym (p refl)
by_class false true l h p q r = sym (q refl)
by_class false false l h p q r = r

module _ {D : Type 0} {s : Structure D} (w : World s) where
  -- how many kinds the world has
  abbrev size : ℕ
  size = kinds w.told

  -- the kind of an element in this world
  abbrev kind_of : D → ℕ
  kind_of x = kind s w.told x

  -- ---- the pairs of classes and elements

  -- element i is in class c
  abbrev pair : ℕ → ℕ → Pair
  pair c i = record { class = c; element = i }

  -- the pair of c and i, if what stands for i is in c
  abbrev pairs_at : ℕ → ℕ → List Pair
  pairs_at c i = cond (s.has (Name c) (w.stands i)) (pair c i ∷ []) []

  -- the pairs of class c
  abbrev pairs_of : ℕ → List Pair
  pairs_of c = collect (pairs_at c) (numbers size)

  -- the pairs of all classes
  abbrev pairs : List Pair
  pairs = collect pairs_of (numbers w.bound)

  -- what stands for i is in c: then the pair is listed
  pair_listed : (c i : ℕ) → c < w.bound → i < size → s.has (Name c) (w.stands i) ≡ true → OneOf (pair c i) pairs
  pair_listed c i cl il e =
      member_collect pairs_of c (pair c i) (numbers w.bound) (below_member w.bound c cl)
      (member_collect (pairs_at c) i (pair c i) (numbers size) (below_member size i il)
      (member_cond (s.has (Name c) (w.stands i)) (pair c i) (pair c i ∷ []) e (inl refl)))

  -- what a listed pair says
  pub record IsPair (p : Pair) : Type 0 where
    pub within : p.element < size
    pub inside : s.has (Name p.class) (w.stands p.element) ≡ true

  -- each listed pair says so
  pub listed_pair : (p : Pair) → OneOf p pairs → IsPair p
  listed_pair p m =
      let a = collect_member pairs_of p (numbers w.bound) m in
      let b = collect_member (pairs_at a.0) p (numbers size) a.2 in
      let c = cond_member (s.has (Name a.0) (w.stands b.0)) p (pair a.0 b.0 ∷ []) b.2 in
      only (pair a.0 b.0) c.1 (record { within = member_below size b.0 b.1; inside = c.0 })
    where
      only : (q : Pair) → OneOf p (q ∷ []) → IsPair q → IsPair p
      only q (inl e) h = subst IsPair (sym e) h
      only q (inr m) h = absurd m

  -- ---- the edges

  -- r goes from i to j
  abbrev edge : ℕ → ℕ → ℕ → Edge
  edge r i j = record { role = r; source = i; target = j }

  -- the edge of r from i to j, if the test says so
  abbrev edges_at : ℕ → ℕ → ℕ → List Edge
  edges_at r i j = cond (w.test r i j) (edge r i j ∷ []) []

  -- the edges of r from i
  abbrev edges_from : ℕ → ℕ → List Edge
  edges_from r i = collect (edges_at r i) (numbers size)

  -- the edges of r
  abbrev edges_of : ℕ → List Edge
  edges_of r = collect (edges_from r) (numbers size)

  -- the edges of all roles
  abbrev pub edges : List Edge
  edges = collect edges_of (numbers w.bound)

  -- the test says so: then the edge is listed
  edge_listed : (r i j : ℕ) → r < w.bound → i < size → j < size → w.test r i j ≡ true → OneOf (edge r i j) edges
  edge_listed r i j rl il jl t =
      member_collect edges_of r (edge r i j) (numbers w.bound) (below_member w.bound r rl)
      (member_collect (edges_from r) i (edge r i j) (numbers size) (below_member size i il)
      (member_collect (edges_at r i) j (edge r i j) (numbers size) (below_member size j jl)
      (member_cond (w.test r i j) (edge r i j) (edge r i j ∷ []) t (inl refl))))

  -- what a listed edge says
  pub record IsEdge (e : Edge) : Type 0 where
    pub role : e.role < w.bound
    pub source : e.source < size
    pub target : e.target < size
    pub tested : w.test e.role e.source e.target ≡ true

  -- each listed edge says so
  pub listed_edge : (e : Edge) → OneOf e edges → IsEdge e
  listed_edge e m =
      let a = collect_member edges_of e (numbers w.bound) m in
      let b = collect_member (edges_from a.0) e (numbers size) a.2 in
      let c = collect_member (edges_at a.0 b.0) e (numbers size) b.2 in
      let d = cond_member (w.test a.0 b.0 c.0) e (edge a.0 b.0 c.0 ∷ []) c.2 in
      only (edge a.0 b.0 c.0) d.1 (record {
        role = member_below w.bound a.0 a.1;
        source = member_below size b.0 b.1;
        target = member_below size c.0 c.1;
        tested = d.0;
      })
    where
      only : (q : Edge) → OneOf e (q ∷ []) → IsEdge q → IsEdge e
      only q (inl i) h = subst IsEdge (sym i) h
      only q (inr m) h = absurd m

  -- ---- the interpretation

  -- the elements are the numbers of the kinds
  abbrev pub finite : Interpretation
  finite = record {
    size = size;
    classes = pairs;
    roles = edges;
    inhabited = let l = some_kind w.told in omega arith;
    members = all_from_member (λ (p : Pair). p.element < size) pairs (λ p m. (listed_pair p m).within);
    sources = all_from_member (λ (e : Edge). e.source < size) edges (λ e m. (listed_edge e m).source);
    targets = all_from_member (λ (e : Edge). e.target < size) edges (λ e m. (listed_edge e m).target);
  }

  -- some edge of r goes between elements of these two kinds
  abbrev pub Goes : ℕ → ℕ → ℕ → Type 0
  Goes r i j = Linked s w.told r (w.stands i) (w.stands j)

  -- an edge of the interpretation is one between elements of the domain
  pub edge_goes : (r i j : ℕ) → has_edge finite r i j ≡ true → Goes r i j
  edge_goes r i j h =
      let q = edge_of finite r i j h in
      let e = listed_edge q.0 q.1 in
      let l = (w.linked q.0.role q.0.source q.0.target e.role e.source e.target).0 e.tested in
      subst (λ z. Goes z i j) q.2 (subst (λ z. Goes q.0.role z j) q.3 (subst (λ z. Goes q.0.role q.0.source z) q.4 l))

  -- an edge between elements of the domain is one of the interpretation
  pub goes_edge : (r i j : ℕ) → r < w.bound → i < size → j < size → Goes r i j → OneOf (edge r i j) edges
  goes_edge r i j rl il jl l = edge_listed r i j rl il jl ((w.linked r i j rl il jl).1 l)

  -- a listed edge of r goes between elements of the kinds of its ends
  pub ends_of : (e : Edge) (r : ℕ) → OneOf e edges → e.role ≡ r → Goes r e.source e.target
  ends_of e r m q = edge_goes r e.source e.target (edge_from finite e r e.source e.target m q refl refl)

  -- an edge between two elements goes between their kinds, the first of which has these elements
  goes_between : (r i : ℕ) (y : D) → IsTrue (s.edge r (w.stands i) y) → Goes r i (kind_of y)
  goes_between r i y g = (w.stands i, y, refl, sym (w.found y), g)

  -- ---- what is in an expression

  -- a number is in the expression where the element that stands for it is
  abbrev pub Agrees : Expr → Type 0
  Agrees e = (i : ℕ) → i < size → member finite e i ≡ s.has e (w.stands i)

  -- of the elements of one kind all are in the expression or none
  abbrev pub IsEven : Expr → Type 0
  IsEven e = (x y : D) → kind_of x ≡ kind_of y → s.has e x ≡ s.has e y

  -- the interpretation and the domain have the same elements of the expression
  abbrev pub IsKept : Expr → Type 0
  IsKept e = Agrees e × IsEven e

  -- so it is where the world tells the expression apart
  told_even : (e : Expr) → OneOf e w.told → IsEven e
  told_even e m x y q = same_kind s w.told x y q e m

  -- a kept expression has an element exactly where it has the number of its kind
  pub kind_member : (e : Expr) → IsKept e → (x : D) → member finite e (kind_of x) ≡ s.has e x
  kind_member e kept x = kept.0 (kind_of x) (kind_below s w.told x) ∙ kept.1 (w.stands (kind_of x)) x (w.found x)

  -- the pair is of class c and element i
  abbrev is_pair : ℕ → ℕ → Pair → Bool
  is_pair c i p = p.class == c && p.element == i

  -- a named class is kept where the world has its number and tells it apart
  pub name_kept : (c : ℕ) → c < w.bound → OneOf (Name c) w.told → IsKept (Name c)
  name_kept c cl m = (agrees, told_even (Name c) m)
    where
      there : (i : ℕ) → list_any (is_pair c i) pairs ≡ true → s.has (Name c) (w.stands i) ≡ true
      there i h =
          let q = any_member (is_pair c i) pairs h in
          let t = and_parts (q.0.class == c) (q.0.element == i) q.2 in
          subst (λ z. s.has (Name z) (w.stands i) ≡ true) (eqb-true q.0.class c t.0)
          (subst (λ z. s.has (Name q.0.class) (w.stands z) ≡ true) (eqb-true q.0.element i t.1) (listed_pair q.0 q.1).inside)

      back : (i : ℕ) → i < size → s.has (Name c) (w.stands i) ≡ true → list_any (is_pair c i) pairs ≡ true
      back i il h = any_by_member (is_pair c i) pairs (pair c i) (pair_listed c i cl il h)
          (and_from (c == c) (i == i) (eq-eqb c c refl) (eq-eqb i i refl))

      agrees : Agrees (Name c)
      agrees i il =
          let x : D = w.stands i in
          member-Name finite i c ∙ by_class (c == 0) (c == 1) (list_any (is_pair c i) pairs) (s.has (Name c) x)
          (λ z. subst (λ a. s.has (Name a) x ≡ true) (sym (eqb-true c 0 z)) (s.thing x))
          (λ o. subst (λ a. s.has (Name a) x ≡ false) (sym (eqb-true c 1 o)) (is_false (s.has (Name 1) x) (s.nothing x)))
          (same_tests (list_any (is_pair c i) pairs) (s.has (Name c) x) (there i) (back i il))

  -- an intersection is kept where its parts are
  pub meet_kept : (l : List Expr) → AllByRecursion IsKept l → IsKept (Meet l)
  meet_kept l h = let kept = in_list IsKept l h in (
    λ i il. member-Meet finite i l
        ∙ all_same (λ e. member finite e i) (λ e. s.has e (w.stands i)) l (λ e m. (kept e m).0 i il) ∙ sym (s.meet l (w.stands i)),
    λ x y q. s.meet l x ∙ all_same (λ e. s.has e x) (λ e. s.has e y) l (λ e m. (kept e m).1 x y q) ∙ sym (s.meet l y),
  )

  -- a union is kept where its parts are
  pub join_kept : (l : List Expr) → AllByRecursion IsKept l → IsKept (Join l)
  join_kept l h = let kept = in_list IsKept l h in (
    λ i il. member-Join finite i l
        ∙ any_same (λ e. member finite e i) (λ e. s.has e (w.stands i)) l (λ e m. (kept e m).0 i il) ∙ sym (s.join l (w.stands i)),
    λ x y q. s.join l x ∙ any_same (λ e. s.has e x) (λ e. s.has e y) l (λ e m. (kept e m).1 x y q) ∙ sym (s.join l y),
  )

  -- a complement is kept where its part is
  pub minus_kept : (e : Expr) → IsKept e → IsKept (Minus e)
  minus_kept e kept = (
    λ i il. member-Minus finite i e ∙ ap not (kept.0 i il) ∙ sym (s.minus e (w.stands i)),
    λ x y q. s.minus e x ∙ ap not (kept.1 x y q) ∙ sym (s.minus e y),
  )

  -- the edge that goes from a number, from its test
  goes_from : (e : Edge) (r i : ℕ) → OneOf e edges → goes e r i ≡ true → Goes r i e.target
  goes_from e r i m t =
      let g = and_parts (e.role == r) (e.source == i) t in
      edge_goes r i e.target (edge_from finite e r i e.target m (eqb-true e.role r g.0) (eqb-true e.source i g.1) refl)

  -- an edge goes from its source
  goes_itself : (r i j : ℕ) → goes (edge r i j) r i ≡ true
  goes_itself r i j = and_from (r == r) (i == i) (eq-eqb r r refl) (eq-eqb i i refl)

  -- an existential is kept where its part is, and the world has its role and tells it apart
  pub some_kept : (r : ℕ) (e : Expr) → r < w.bound → OneOf (SomeOf r e) w.told → IsKept e → IsKept (SomeOf r e)
  some_kept r e rl m kept = (agrees, even)
    where
      even : IsEven (SomeOf r e)
      even = told_even (SomeOf r e) m

      there : (i : ℕ) → list_any (leads r i (member finite e)) edges ≡ true → s.has (SomeOf r e) (w.stands i) ≡ true
      there i h =
          let q = any_member (leads r i (member finite e)) edges h in
          let t = and_parts (goes q.0 r i) (member finite e q.0.target) q.2 in
          let l = goes_from q.0 r i q.1 t.0 in
          let same : s.has e (w.stands q.0.target) ≡ true = sym (kept.0 q.0.target (listed_edge q.0 q.1).target) ∙ t.1 in
          let has : s.has e l.1 ≡ true = kept.1 l.1 (w.stands q.0.target) l.3 ∙ same in
          sym (even l.0 (w.stands i) l.2) ∙ (s.some r e l.0).1 (l.1, l.4, has)

      back : (i : ℕ) → i < size → s.has (SomeOf r e) (w.stands i) ≡ true → list_any (leads r i (member finite e)) edges ≡ true
      back i il h =
          let y = (s.some r e (w.stands i)).0 h in
          let j : ℕ = kind_of y.0 in
          let listed = goes_edge r i j rl il (kind_below s w.told y.0) (goes_between r i y.0 y.1) in
          any_by_member (leads r i (member finite e)) edges (edge r i j) listed
          (and_from (goes (edge r i j) r i) (member finite e j) (goes_itself r i j) (kind_member e kept y.0 ∙ y.2))

      agrees : Agrees (SomeOf r e)
      agrees i il = member-SomeOf finite i r e
          ∙ same_tests (list_any (leads r i (member finite e)) edges) (s.has (SomeOf r e) (w.stands i)) (there i) (back i il)

  -- a universal is kept where its part is, and the world has its role and tells it apart
  pub all_kept : (r : ℕ) (e : Expr) → r < w.bound → OneOf (AllOf r e) w.told → IsKept e → IsKept (AllOf r e)
  all_kept r e rl m kept = (agrees, even)
    where
      even : IsEven (AllOf r e)
      even = told_even (AllOf r e) m

      there : (i : ℕ) → i < size → list_all (keeps r i (member finite e)) edges ≡ true → s.has (AllOf r e) (w.stands i) ≡ true
      there i il h = (s.all r e (w.stands i)).1 (λ y g.
          let j : ℕ = kind_of y in
          let listed = goes_edge r i j rl il (kind_below s w.told y) (goes_between r i y g) in
          let k = all_member (keeps r i (member finite e)) edges h (edge r i j) listed in
          sym (kind_member e kept y) ∙ or_keeps (goes (edge r i j) r i) (member finite e j) k (goes_itself r i j))

      back : (i : ℕ) → s.has (AllOf r e) (w.stands i) ≡ true → list_all (keeps r i (member finite e)) edges ≡ true
      back i h = all_by_member (keeps r i (member finite e)) edges (λ q k. keeps_or (goes q r i) (member finite e q.target) (λ t.
          let l = goes_from q r i k t in
          let has : s.has e l.1 ≡ true = (s.all r e l.0).0 (even l.0 (w.stands i) l.2 ∙ h) l.1 l.4 in
          kept.0 q.target (listed_edge q k).target ∙ sym (kept.1 l.1 (w.stands q.target) l.3) ∙ has))

      agrees : Agrees (AllOf r e)
      agrees i il = member-AllOf finite i r e
          ∙ same_tests (list_all (keeps r i (member finite e)) edges) (s.has (AllOf r e) (w.stands i)) (there i il) (back i)
