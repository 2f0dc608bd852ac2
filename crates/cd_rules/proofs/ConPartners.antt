-- Partners: clauses by their greatest atoms, in place of clauses by number.
use Rattle.std.proofs.Common.{◌≡◌, ◌⊎◌, ◌↔◌, ◌+◌, ◌<◌, ◌≤◌, ◌==◌, ◌++◌, ℕ, Bool, true, List, [], ◌∷◌, length, get_or, refl, sym, ◌∙◌, ap, subst, inl, inr, arith, eqb-true, eq-eqb}
use Rattle.std.specs.List.{list_any}
use Rattle.std.proofs.lemmas.Bool.{cases_lt}
use Rattle.std.proofs.lemmas.List.{get_or_read}
use Rattle.cd_base.specs.Appends.{Appends}
use Rattle.cd_base.specs.Lists.{OneOf}
use Rattle.cd_base.specs.declared.normal.Conj.{Conj}
use Rattle.cd_base.specs.declared.normal.Normal.{Normal}
use Rattle.cd_base.proofs.Appending.{OfBelow, none, otherwise}
use Rattle.cd_base.proofs.Members.{any_by_member, any_member, member_at, member_get, member_right}
use Rattle.cd_clause.specs.declared.elem.Elem.{Elem}
use Rattle.cd_clause.specs.declared.elem.Elem.TheVariants.{Plain}
use Rattle.cd_clause.specs.Elements.{Eligible, rest}
use Rattle.cd_clause.specs.Rules.{Rests}
use Rattle.cd_clause.proofs.Eligibles.{eligible_one}
use Rattle.cd_index.specs.Index.{left_of}
use Rattle.cd_rules.specs.declared.partners.Partner.{Partner}
use Rattle.cd_rules.specs.Among.{Among}
use Rattle.cd_rules.specs.Candidates.{HasWide}
use Rattle.cd_rules.specs.Facts.{IsPicked}
use Rattle.cd_rules.specs.LookUps.{HasAllWith}
use Rattle.cd_rules.specs.Partners.{ArePartners, AreNumbered, IsAtHand, IsPartner, UnionOf, IsConOf}
use Rattle.cd_rules.specs.Steps.{IsCon, IsWithoutOne}
use Rattle.cd_rules.proofs.ConNumbers.{left_at}
use Rattle.cd_rules.proofs.EachNumber.{member_picked, picked_member}

-- ---- the walk that finds them

same_partner : (n : Normal) (c : List Elem) (p q : Partner) → p.number ≡ q.number → Eligible n (Plain p.atom) c → Eligible n (Plain q.atom) c → p ≡ q
same_partner n c p q k e f =
    let atom : p.atom ≡ q.atom = same_atom p.atom q.atom (eligible_one n c (Plain p.atom) (Plain q.atom) e f) in
    λ i. record { atom = atom i; number = k i }
  where
    same_atom : (a b : ℕ) → Plain a ≡ Plain b → a ≡ b
    same_atom a b e = cc

-- the clause has no greatest atom
pub no_partner : (n : Normal) (clauses : List (List Elem)) (k : ℕ) (c : List Elem) (Done : Type 0) (old : List Partner) → c ≡ get_or clauses k []
    → ((a : ℕ) → Eligible n (Plain a) c → ⊥) → Appends OneOf (IsPartner n clauses k) Done old old
no_partner n clauses k c Done old e f = none (IsPartner n clauses k) Done old (λ h p q. f p.atom (subst (Eligible n (Plain p.atom)) (sym e) q.1))

-- it has one, and was pushed
pub one_partner : (n : Normal) (clauses : List (List Elem)) (k : ℕ) (c : List Elem) (a : ℕ) (p : Partner) (Done : Type 0) (old new : List Partner) → c ≡ get_or clauses k []
    → Eligible n (Plain a) c → p ≡ record { atom = a; number = k } → new ≡ old ++ p ∷ [] → Appends OneOf (IsPartner n clauses k) Done old new
one_partner n clauses k c a p Done old new e el is f =
    let there : Eligible n (Plain a) (get_or clauses k []) = subst (Eligible n (Plain a)) e el in
    let own : IsPartner n clauses k p = subst (IsPartner n clauses k) (sym is) (refl, there) in
    record {
      added = p ∷ [];
      follows = f;
      only = λ q m. elim m [ inl s ↦ subst (IsPartner n clauses k) (sym s) own | inr z ↦ absurd z ];
      every = λ h q w. inl (same_partner n (get_or clauses k []) q p (w.0 ∙ sym own.0) w.1 own.1);
    }

-- the partner of the clause whose number is at place i
abbrev pub OfChoice : Normal → List (List Elem) → List ℕ → ℕ → Partner → Type 0
OfChoice n clauses choices i p = IsPartner n clauses (get_or choices i 0) p

pub found_partners : (n : Normal) (clauses : List (List Elem)) (choices : List ℕ) (i : ℕ) (found : List Partner) → i ≡ length choices
    → Appends OneOf (OfBelow (OfChoice n clauses choices) i) (Unit {0}) [] found → ArePartners n clauses choices found
found_partners n clauses choices i found e a p = (
  λ m.
      let w = a.only p (subst (OneOf p) a.follows m) in
      let l : w.0 < length choices = omega (arith, w.1) in
      (subst (λ k. OneOf k choices) (sym w.2.0) (member_get choices w.0 0 l), subst (λ k. Eligible n (Plain p.atom) (get_or clauses k [])) (sym w.2.0) w.2.1),
  λ q.
      let w = member_at p.number choices q.0 in
      subst (OneOf p) (sym a.follows) (a.every tt p (w.0, omega (arith, w.1), (sym (w.2 0), subst (λ k. Eligible n (Plain p.atom) (get_or clauses k [])) (sym (w.2 0)) q.1))),
)

-- they have the numbers of clauses
pub are_numbered : (n : Normal) (clauses : List (List Elem)) (choices : List ℕ) (partners : List Partner) → ArePartners n clauses choices partners
    → ((k : ℕ) → OneOf k choices → k < length clauses) → AreNumbered clauses partners
are_numbered n clauses choices partners are l p m = l p.number ((are p).0 m).0

-- ---- the rule Con with partners

module _ (n : Normal) (clauses : List (List Elem)) (choices : List ℕ) (partners : List Partner) where
  abbrev Has : List Elem → Type 0
  Has = IsPicked clauses choices

  module _ (are : ArePartners n clauses choices partners) where
    union_rests : (atoms : List ℕ) (m : List Elem) → UnionOf clauses partners atoms m → Rests n Has atoms m
    union_rests [] m u = u
    union_rests (a ∷ atoms) m u =
        let p = u.0 in
        let c : List Elem = get_or clauses p.number [] in
        let q = (are p).0 u.1 in (
          c,
          member_picked clauses choices p.number q.0,
          subst (λ b. Eligible n (Plain b) c) u.2 q.1,
          record { tail = u.3.tail; rests = union_rests atoms u.3.tail u.3.union; is = u.3.is ∙ ap (λ b. rest (Plain b) c ++ u.3.tail) u.2 },
        )

    rests_union : (atoms : List ℕ) (m : List Elem) → Rests n Has atoms m → UnionOf clauses partners atoms m
    rests_union [] m r = r
    rests_union (a ∷ atoms) m r =
        let w = picked_member clauses choices r.0 r.1 in
        let p : Partner = record { atom = a; number = w.0 } in (
          p,
          (are p).1 (w.1, subst (Eligible n (Plain a)) w.2 r.2),
          refl,
          record { tail = r.3.tail; union = rests_union atoms r.3.tail r.3.rests; is = r.3.is ∙ ap (λ c. rest (Plain a) c ++ r.3.tail) w.2 },
        )

  -- what is concluded with partners is what is concluded with the clauses, where the unions for the atoms that are left are the same
  module _ (atom : ℕ) (others : List Elem)
      (to : (x : Conj) → OneOf x n.n1 → (taken : List ℕ) → IsWithoutOne atom x.left taken → (m : List Elem) → UnionOf clauses partners taken m → Rests n Has taken m)
      (of : (x : Conj) → OneOf x n.n1 → (taken : List ℕ) → IsWithoutOne atom x.left taken → (m : List Elem) → Rests n Has taken m → UnionOf clauses partners taken m) where
    con_as : (Done : Type 0) (old new : List (List Elem)) → Appends Among (IsConOf n.n1 clauses partners atom others) Done old new → Appends Among (IsCon n Has atom others) Done old new
    con_as Done old new a =
        otherwise (IsConOf n.n1 clauses partners atom others) (IsCon n Has atom others) Done Done old new
        (λ d q. (q.0, q.1, (q.2.0, q.2.1, (q.2.2.0, to q.0 q.1 q.2.0 q.2.1 q.2.2.0 q.2.2.1, q.2.2.2))))
        (λ h d q. (q.0, q.1, (q.2.0, q.2.1, (q.2.2.0, of q.0 q.1 q.2.0 q.2.1 q.2.2.0 q.2.2.1, q.2.2.2))))
        (λ h. h) a

  -- with the partners of all clauses
  pub con_of_all : (atom : ℕ) (others : List Elem) (Done : Type 0) (old new : List (List Elem)) → ArePartners n clauses choices partners
      → Appends Among (IsConOf n.n1 clauses partners atom others) Done old new → Appends Among (IsCon n Has atom others) Done old new
  con_of_all atom others Done old new are = con_as atom others
      (λ x k taken w. union_rests are taken) (λ x k taken w. rests_union are taken) Done old new

-- an axiom without another atom on the left leaves none
none_taken : (atom : ℕ) (left taken : List ℕ) → (1 < length left → ⊥) → IsWithoutOne atom left taken → taken ≡ []
none_taken atom left taken f (before, after, l, t) = t ∙ nothing before after (λ m. f (subst (λ w. 1 < length w) (sym l) m))
  where
    nothing : (before after : List ℕ) → (1 < length (before ++ (atom ∷ after)) → ⊥) → before ++ after ≡ []
    nothing [] [] f = refl
    nothing [] (b ∷ after) f = absurd (f (omega arith))
    nothing (a ∷ before) after f = absurd (f (longer before after))
      where
        longer : (before after : List ℕ) → 1 < length (a ∷ (before ++ (atom ∷ after)))
        longer [] after = omega arith
        longer (b ∷ before) after = omega arith

-- without partners, where no axiom has another atom on the left
pub con_of_none : (n : Normal) (clauses : List (List Elem)) (choices all : List ℕ) (atom : ℕ) (others : List Elem) (Done : Type 0) (old new : List (List Elem))
    → HasAllWith n.n1 atom all → (HasWide n.n1 all → ⊥)
    → Appends Among (IsConOf n.n1 clauses [] atom others) Done old new → Appends Among (IsCon n (IsPicked clauses choices) atom others) Done old new
con_of_none n clauses choices all atom others Done old new every narrow = con_as n clauses choices [] atom others
    (λ x k taken w m u. let e = none x k taken w in subst (λ l. Rests n (IsPicked clauses choices) l m) (sym e) (subst (λ l. UnionOf clauses [] l m) e u))
    (λ x k taken w m r. let e = none x k taken w in subst (λ l. UnionOf clauses [] l m) (sym e) (subst (λ l. Rests n (IsPicked clauses choices) l m) e r)) Done old new
  where
    none : (x : Conj) → OneOf x n.n1 → (taken : List ℕ) → IsWithoutOne atom x.left taken → taken ≡ []
    none x k taken w =
        let p = member_at x n.n1 k in
        let left : left_of n.n1 p.0 ≡ x.left = left_at n.n1 p.0 x p.1 (p.2 x) in
        let there : OneOf atom (left_of n.n1 p.0) = subst (OneOf atom) (sym (left ∙ w.2)) (member_right atom w.0 (atom ∷ w.1) (inl refl)) in
        none_taken atom x.left taken (λ m. narrow (p.0, every p.0 p.1 there, subst (λ l. 1 < length l) (sym left) m)) w

-- ---- atoms at hand

-- the tests of one atom
pub hand_by_test : (partners : List Partner) (atom at : ℕ) (b : Bool) → b ≡ list_any (λ (p : Partner). p.atom == at) partners → (at ≡ atom → ⊥) → (b ≡ true) ↔ IsAtHand partners atom at
hand_by_test partners atom at b e differ = (
  λ t. (let w = any_member (λ (p : Partner). p.atom == at) partners (sym e ∙ t) in inr (w.0, w.1, eqb-true w.0.atom at w.2)),
  λ h. elim h [
    | inl q ↦ absurd (differ q)
    | inr q ↦ e ∙ any_by_member (λ (p : Partner). p.atom == at) partners q.0 q.1 (eq-eqb q.0.atom at q.2)
  ],
)

module _ (atoms : List ℕ) (partners : List Partner) (atom : ℕ) where
  -- the atoms below place `low`, and from place `high` on, are at hand
  abbrev pub AreEnds : ℕ → ℕ → Type 0
  AreEnds low high = (high ≤ length atoms) × ((k : ℕ) → k < length atoms → (k < low) ⊎ (high ≤ k) → IsAtHand partners atom (get_or atoms k 0))

  pub ends_begin : (high : ℕ) → high ≡ length atoms → AreEnds 0 high
  ends_begin high e = (omega arith, λ k l c. elim c [ inl z ↦ absurd (omega (arith, z)) | inr z ↦ absurd (omega (arith, l, z, e)) ])

  pub ends_go : (low high next : ℕ) (a b : ℕ) → AreEnds low high → low < high → next + 1 ≡ high → a ≡ get_or atoms low a → b ≡ get_or atoms next b
      → IsAtHand partners atom a → IsAtHand partners atom b → AreEnds (low + 1) next
  ends_go low high next a b w l e ra rb ha hb = (
    omega (arith, w.0),
    λ k m c. elim (cases_lt k low) [
      | inl z ↦ w.1 k m (inl z)
      | inr z ↦ elim (cases_lt k high) [
        | inr y ↦ w.1 k m (inr y)
        | inl y ↦ elim c [
          | inl u ↦ (let q : low ≡ k = omega (arith, u, z) in subst (λ j. IsAtHand partners atom (get_or atoms j 0)) q (subst (IsAtHand partners atom) (get_or_read atoms low a (omega (arith, w.0)) ra 0) ha))
          | inr u ↦ (let q : next ≡ k = omega (arith, u, y) in subst (λ j. IsAtHand partners atom (get_or atoms j 0)) q (subst (IsAtHand partners atom) (get_or_read atoms next b (omega (arith, w.0)) rb 0) hb))
        ]
      ]
    ],
  )

  pub ends_meet : (low high : ℕ) → AreEnds low high → high ≤ low → (b : ℕ) → OneOf b atoms → IsAtHand partners atom b
  ends_meet low high w l b m =
      let p = member_at b atoms m in
      subst (IsAtHand partners atom) (p.2 0) (w.1 p.0 p.1 (elim (cases_lt p.0 low) [ inl z ↦ inl z | inr z ↦ inr (omega (arith, z, l)) ]))

  -- the atom at a place isn't
  pub end_fails : (i a : ℕ) → i < length atoms → a ≡ get_or atoms i a → (IsAtHand partners atom a → ⊥) → ((b : ℕ) → OneOf b atoms → IsAtHand partners atom b) → ⊥
  end_fails i a l r f h = f (h a (subst (λ w. OneOf w atoms) (sym (get_or_read atoms i a l r 0)) (member_get atoms i 0 l)))
