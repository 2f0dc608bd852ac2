-- The canonical interpretation is a model: what is chosen in saturated contexts obeys each rule, and so its elements and edges each axiom.
-- And the whole of completeness.
use Rattle.std.proofs.Common.{◌≡◌, ℕ, Bool, true, false, List, [], ◌∷◌, ◌++◌, map, refl, subst, inl, inr, arith}
use Rattle.cd_base.specs.Lists.{OneOf, SameSet}
use Rattle.cd_base.specs.declared.normal.Normal.{Normal}
use Rattle.cd_base.specs.declared.normal.Conj.{Conj}
use Rattle.cd_base.specs.declared.normal.Triple.{Triple}
use Rattle.cd_base.specs.Normal.{Under, same, step}
use Rattle.cd_base.specs.Keys.{plain, negated, key_with}
use Rattle.cd_base.proofs.Members.{member_cases, map_member}
use Rattle.cd_base.proofs.Keys.{key_with_new}
use Rattle.cd_clause.specs.declared.elem.Elem.{Elem}
use Rattle.cd_clause.specs.declared.elem.Elem.TheVariants.{Plain, Exist}
use Rattle.cd_clause.specs.Covering.{is_as_strong}
use Rattle.cd_clause.specs.Elements.{rest}
use Rattle.cd_clause.specs.Rules.{Rests, Concludes, told_by, by_init, by_neg, by_con, by_ex, by_back, by_sure, by_dead, by_all}
use Rattle.cd_clause.proofs.Elements.{alone_cases}
use Rattle.cd_clause.proofs.Strengths.{IsPart, part_trans, part_with, part_within, strong_atom, strong_exist, strong_from}
use Rattle.cd_model.specs.Canonical.{Listing, chosen, has_empty, canonical, IsClosure, RolesInRange, IsOpen}
use Rattle.cd_model.specs.Saturated.{Saturated}
use Rattle.cd_model.proofs.Listings.{IsListedModel, Holds, Is}
use Rattle.cd_model.proofs.Choice.{Satisfied, Made, made, hits_redundant, empty_from_none}
use Rattle.cd_model.proofs.Elements.{At, at_find, at_one, at_below, element_at, is_from, is_at, goes_from, goes_at}

module _ (n : Normal) (keys : List (List ℕ)) (live : List ℕ → List (List Elem)) (sat : Saturated n keys live) where
  abbrev Ch : List ℕ → List Elem
  Ch k = chosen n (live k)

  abbrev Rule : List ℕ → List Elem → Type 0
  Rule h d = Concludes n h (λ c. OneOf c (live h)) (told_by n (λ k c. OneOf k keys × OneOf c (live k))) d

  -- each conclusion of a rule has an element that is satisfied
  rule_hits : (h : List ℕ) → OneOf h keys → has_empty (live h) ≡ false → (d : List Elem) → Rule h d → (e : Elem) × OneOf e d × Satisfied (Ch h) e
  rule_hits h m o d r = hits_redundant n (live h) o d (sat.closed h m d r)

  module _ (h : List ℕ) (known : OneOf h keys) (o : has_empty (live h) ≡ false) where
    same_set : (d : List Elem) → SameSet d d
    same_set d = (λ x m. m, λ x m. m)

    -- an atom that is satisfied is chosen
    atom_chosen : (a : ℕ) (f : Elem) → f ≡ Plain a → Satisfied (Ch h) f → OneOf (Plain a) (Ch h)
    atom_chosen a f q s = subst (λ z. OneOf z (Ch h)) (strong_atom s.0 a (subst (λ z. is_as_strong s.0 z ≡ true) q s.2)) s.1

    -- an existential that is satisfied is so by a chosen one to a key that has its own
    exist_chosen : (r : ℕ) (l : List ℕ) (f : Elem) → f ≡ Exist r l → Satisfied (Ch h) f → (k : List ℕ) × OneOf (Exist r k) (Ch h) × IsPart l k
    exist_chosen r l f q s =
        let w = strong_exist s.0 r l (subst (λ z. is_as_strong s.0 z ≡ true) q s.2) in
        (w.0, subst (λ z. OneOf z (Ch h)) w.1 s.1, w.2)

    init_chosen : (a : ℕ) → OneOf (plain a) h → OneOf (Plain a) (Ch h)
    init_chosen a m =
        let r = rule_hits h known o (Plain a ∷ []) (by_init a m (same_set (Plain a ∷ []))) in
        elim r.1 [ inl q ↦ atom_chosen a r.0 q r.2 | inr z ↦ absurd z ]

    neg_not : (a : ℕ) → OneOf (negated a) h → OneOf (Plain a) (Ch h) → ⊥
    neg_not a m c =
        let w : Made n (Ch h) (live h) (Plain a) = made n (live h) o (Plain a) c in
        let r = rule_hits h known o (rest (Plain a) w.clause) (by_neg a w.clause w.isin w.eligible m (same_set (rest (Plain a) w.clause))) in
        w.rest_not r.0 r.1 r.2

    rests_for : (left : List ℕ) → ((a : ℕ) → OneOf a left → OneOf (Plain a) (Ch h)) → (m : List Elem) × Rests n (λ c. OneOf c (live h)) left m × ((f : Elem) → OneOf f m → Satisfied (Ch h) f → ⊥)
    rests_for [] t = ([], refl, λ f k. absurd k)
    rests_for (a ∷ left) t =
        let w : Made n (Ch h) (live h) (Plain a) = made n (live h) o (Plain a) (t a (inl refl)) in
        let r = rests_for left (λ b k. t b (inr k)) in (
          rest (Plain a) w.clause ++ r.0,
          (w.clause, w.isin, w.eligible, record { tail = r.0; rests = r.1; is = refl }),
          λ f k c. elim (member_cases f (rest (Plain a) w.clause) r.0 k) [ inl p ↦ w.rest_not f p c | inr q ↦ r.2 f q c ],
        )

    con_chosen : (x : Conj) → OneOf x n.n1 → ((a : ℕ) → OneOf a x.left → OneOf (Plain a) (Ch h)) → (b : ℕ) × OneOf b x.right × OneOf (Plain b) (Ch h)
    con_chosen x m t =
        let s = rests_for x.left t in
        let r = rule_hits h known o (s.0 ++ map Plain x.right) (by_con x s.0 m s.1 (same_set (s.0 ++ map Plain x.right))) in
        elim (member_cases r.0 s.0 (map Plain x.right) r.1) [
          | inl p ↦ absurd (s.2 r.0 p r.2)
          | inr q ↦ (let b = map_member Plain r.0 x.right q in (b.0, b.1, atom_chosen b.0 r.0 b.2 r.2))
        ]

    reach : (r : ℕ) (k : List ℕ) → OneOf (Exist r k) (Ch h) → OneOf k keys × (has_empty (live k) ≡ false)
    reach r k c =
        let w : Made n (Ch h) (live h) (Exist r k) = made n (live h) o (Exist r k) c in
        let known' : OneOf k keys = sat.reached h known w.clause w.isin r k w.eligible in (
          known',
          empty_from_none (live k) (λ z.
              let s = rule_hits h known o (rest (Exist r k) w.clause) (by_dead w.clause r k w.isin w.eligible (known', z) (same_set (rest (Exist r k) w.clause))) in
              w.rest_not s.0 s.1 s.2),
        )

    ex_chosen : (t : Triple) → OneOf t n.n2 → OneOf (Plain t.atom) (Ch h) → (k : List ℕ) × OneOf (Exist t.role k) (Ch h) × IsPart (plain t.other ∷ []) k
    ex_chosen t m c =
        let w : Made n (Ch h) (live h) (Plain t.atom) = made n (live h) o (Plain t.atom) c in
        let r = rule_hits h known o (Exist t.role (plain t.other ∷ []) ∷ rest (Plain t.atom) w.clause) (by_ex t w.clause m w.isin w.eligible (same_set (Exist t.role (plain t.other ∷ []) ∷ rest (Plain t.atom) w.clause))) in
        elim r.1 [ inl q ↦ exist_chosen t.role (plain t.other ∷ []) r.0 q r.2 | inr p ↦ absurd (w.rest_not r.0 p r.2) ]

    -- Where an existential is chosen, and that with a literal more is satisfied, the key has the literal: what satisfies the one is at least as
    -- strong as the other.
    has_literal : (r : ℕ) (k : List ℕ) (w : Made n (Ch h) (live h) (Exist r k)) (l : ℕ) (f : Elem) → f ≡ Exist r (key_with l k) → Satisfied (Ch h) f → OneOf l k
    has_literal r k w l f q s =
        let e = exist_chosen r (key_with l k) f q s in
        let same : Exist r e.0 ≡ Exist r k = w.strongest (Exist r e.0) e.1 (strong_from r e.0 k (part_trans k (key_with l k) e.0 (part_with l k) e.2)) in
        let key : e.0 ≡ k = cc in
        part_within (key_with l k) k (subst (IsPart (key_with l k)) key e.2) l (key_with_new l k)

    all_chosen : (t : Triple) → OneOf t n.n4 → (r : ℕ) (k : List ℕ) → OneOf (Exist r k) (Ch h) → Under n.n5 r t.role → OneOf (Plain t.atom) (Ch h) → OneOf (plain t.other) k
    all_chosen t m r k c u a =
        let w : Made n (Ch h) (live h) (Exist r k) = made n (live h) o (Exist r k) c in
        let v : Made n (Ch h) (live h) (Plain t.atom) = made n (live h) o (Plain t.atom) a in
        let more : List ℕ = key_with (plain t.other) k in
        let d : List Elem = Exist r more ∷ (rest (Exist r k) w.clause ++ rest (Plain t.atom) v.clause) in
        let s = rule_hits h known o d (by_all t w.clause v.clause r k m w.isin w.eligible v.isin v.eligible u (same_set d)) in
        elim s.1 [
          | inl q ↦ has_literal r k w (plain t.other) s.0 q s.2
          | inr p ↦ elim (member_cases s.0 (rest (Exist r k) w.clause) (rest (Plain t.atom) v.clause) p) [
            | inl j ↦ absurd (w.rest_not s.0 j s.2)
            | inr j ↦ absurd (v.rest_not s.0 j s.2)
          ]
        ]

  back_chosen : (h : List ℕ) → OneOf h keys → has_empty (live h) ≡ false → (t : Triple) → OneOf t n.n3 → (r : ℕ) (k : List ℕ) → OneOf (Exist r k) (Ch h) → Under n.n5 r t.role → OneOf (Plain t.atom) (Ch k) → OneOf (Plain t.other) (Ch h)
  back_chosen h known o t m r k c u a =
      let w : Made n (Ch h) (live h) (Exist r k) = made n (live h) o (Exist r k) c in
      let kn = reach h known o r k c in
      let v : Made n (Ch k) (live k) (Plain t.atom) = made n (live k) kn.1 (Plain t.atom) a in
      elim (alone_cases (Plain t.atom) v.clause v.eligible.isin) [
        | inl alone ↦
            (let d : List Elem = Plain t.other ∷ rest (Exist r k) w.clause in
            let s = rule_hits h known o d (by_sure t w.clause r k m w.isin w.eligible (v.clause, (kn.0, v.isin), alone) u (λ x j. j, λ x j. j)) in
            elim s.1 [
              | inl q ↦ atom_chosen h known o t.other s.0 q s.2
              | inr j ↦ absurd (w.rest_not s.0 j s.2)
            ])
        | inr others ↦
            (let more : List ℕ = key_with (negated t.atom) k in
            let d : List Elem = Plain t.other ∷ Exist r more ∷ rest (Exist r k) w.clause in
            let s = rule_hits h known o d (by_back t w.clause r k m w.isin w.eligible (v.clause, (kn.0, v.isin), (v.eligible, others)) u (λ x j. j, λ x j. j)) in
            elim s.1 [
              | inl q ↦ atom_chosen h known o t.other s.0 q s.2
              | inr p ↦ elim p [
                | inl q ↦ absurd (neg_not k kn.0 kn.1 t.atom (has_literal h known o r k w (negated t.atom) s.0 q s.2) a)
                | inr j ↦ absurd (w.rest_not s.0 j s.2)
              ]
            ])
      ]

module _ (n : Normal) (below : ℕ → ℕ → Bool) (closure : IsClosure n below) (roles : RolesInRange n) (keys : List (List ℕ)) (live : List ℕ → List (List Elem)) (sat : Saturated n keys live) where
  abbrev M : Listing
  M = canonical n below keys live

  -- the key of an element in an atom, by the element's own key
  is_chosen : (a x : ℕ) (k : List ℕ) → At n below keys live x k → Is M a x → OneOf (Plain a) (chosen n (live k))
  is_chosen a x k p i =
      let r = is_at n below keys live a x i in
      subst (λ z. OneOf (Plain a) (chosen n (live z))) (at_one n below keys live x r.0 k r.1 p) r.2

  model_holds : Holds n M
  model_holds = record {
    n1 = λ c m x l t. let p = element_at n below keys live x l in
        let r = con_chosen n keys live sat p.0 p.1.known p.1.open_still c m (λ a k. is_chosen a x p.0 p.1 (t a k)) in
        (r.0, r.1, is_from n below keys live r.0 x p.0 p.1 r.2);
    n2 = λ t m x i. let p = is_at n below keys live t.atom x i in
        let e = ex_chosen n keys live sat p.0 p.1.known p.1.open_still t m p.2 in
        let kn = reach n keys live sat p.0 p.1.known p.1.open_still t.role e.0 e.1 in
        let y = at_find n below keys live e.0 kn.0 kn.1 in (
          y.0,
          goes_from n below keys live t.role x y.0 (roles.n2 t m) (record { lower = t.role; from = p.0; to = e.0; source = p.1; target = y.1; above = closure.all t.role t.role same; picked = e.1 }),
          is_from n below keys live t.other y.0 e.0 y.1 (init_chosen n keys live sat e.0 kn.0 kn.1 t.other (part_within (plain t.other ∷ []) e.0 e.2 (plain t.other) (inl refl))),
        );
    n3 = λ t m x y g i. let e = goes_at n below keys live t.role x y g in
        is_from n below keys live t.other x e.from e.source
        (back_chosen n keys live sat e.from e.source.known e.source.open_still t m e.lower e.to e.picked (closure.only e.lower t.role e.above) (is_chosen t.atom y e.to e.target i));
    n4 = λ t m x y i g. let e = goes_at n below keys live t.role x y g in
        is_from n below keys live t.other y e.to e.target
        (init_chosen n keys live sat e.to e.target.known e.target.open_still t.other
        (all_chosen n keys live sat e.from e.source.known e.source.open_still t m e.lower e.to e.picked (closure.only e.lower t.role e.above) (is_chosen t.atom x e.from e.source i)));
    n5 = λ p m x y g. let e = goes_at n below keys live p.lower x y g in
        goes_from n below keys live p.higher x y (roles.n5 p m) (record {
          lower = e.lower;
          from = e.from;
          to = e.to;
          source = e.source;
          target = e.target;
          above = closure.all e.lower p.higher (step p (closure.only e.lower p.lower e.above) m refl);
          picked = e.picked;
        });
  }

pub complete : (n : Normal) (below : ℕ → ℕ → Bool) → IsClosure n below → RolesInRange n → (keys : List (List ℕ)) (live : List ℕ → List (List Elem)) → Saturated n keys live → (k : List ℕ) → IsOpen keys live k → IsListedModel n (canonical n below keys live) keys live
complete n below closure roles keys live sat start start_open =
    let x0 = at_find n below keys live start start_open.here (empty_from_none (live start) start_open.open_still) in
    record {
      range = record {
        some = let l = at_below n below keys live x0.0 start x0.1 in omega arith;
        elements = λ c x i. let p = is_at n below keys live c x i in at_below n below keys live x p.0 p.1;
        sources = λ r x y g. let e = goes_at n below keys live r x y g in at_below n below keys live x e.from e.source;
        targets = λ r x y g. let e = goes_at n below keys live r x y g in at_below n below keys live y e.to e.target;
      };
      holds = model_holds n below closure roles keys live sat;
      element = λ k o.
          let none : has_empty (live k) ≡ false = empty_from_none (live k) o.open_still in
          let x = at_find n below keys live k o.here none in
          record {
            x = x.0;
            below = at_below n below keys live x.0 k x.1;
            plains = λ a m. is_from n below keys live a x.0 k x.1 (init_chosen n keys live sat k o.here none a m);
            negateds = λ a m i. neg_not n keys live sat k o.here none a m (is_chosen n below closure roles keys live sat a x.0 k x.1 i);
            only_chosen = λ a i. is_chosen n below closure roles keys live sat a x.0 k x.1 i;
          };
    }
