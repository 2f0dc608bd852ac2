-- What the pairs tell of each role, and that the least relation over the pairs is what this leads to.
use Rattle.std.proofs.Common.{◌≡◌, ◌⊎◌, ◌↔◌, ℕ, zero, suc, ◌<◌, true, ◌==◌, List, [], ◌∷◌, map, filter, length, get_or, refl, sym, subst, inl, inr, arith}
use Rattle.std.specs.List.{list_all, All, Contains}
use Rattle.std.specs.Prelude.{nat_lt}
use Rattle.std.proofs.Math.ListN.{get_or-eq_default}
use Rattle.std.proofs.lemmas.Bool.{cases_Bool, cases_lt, eqb-true, eq-eqb, ltb-true, and_parts, cond-true, cond-false, cond_both}
use Rattle.std.proofs.lemmas.List.Elements.{All-nil, All-cons, All-head, All-tail, All-from_get_or, Contains-append_right, Contains-get_or}
use Rattle.cd_base.specs.declared.normal.RolePair.{RolePair}
use Rattle.cd_base.specs.Lists.{OneOf}
use Rattle.cd_base.specs.Normal.{has_roles_below, Under}
use Rattle.cd_base.specs.Normal.Under.{same, step}
use Rattle.cd_index.specs.Lists.{AreLists}
use Rattle.cd_index.specs.Walk.{told_above, AreWithin, Leads}
use Rattle.cd_index.specs.Walk.Leads.{once, on}

-- ---- what is told of a role are the higher roles of its pairs

head_or_later : {X : Type 0} (x : X) (xs : List X) (y : X) → Contains (x ∷ xs) y → (x ≡ y) ⊎ Contains xs y
head_or_later x xs y (zero, lt, is) = inl is
head_or_later x xs y (suc k, lt, is) = inr (k, omega arith, is)

told_of_pair : (pairs : List RolePair) (p : RolePair) → OneOf p pairs → Contains (told_above pairs p.lower) p.higher
told_of_pair [] p m = absurd m
told_of_pair (q ∷ pairs) p (inl is) =
    subst (λ (o : RolePair). Contains (told_above (q ∷ pairs) o.lower) o.higher) (sym is)
    (subst (λ (l : List RolePair). Contains (map (λ (o : RolePair). o.higher) l) q.higher)
    (sym (cond-true (q.lower == q.lower) (q ∷ filter (λ (o : RolePair). o.lower == q.lower) pairs) (filter (λ (o : RolePair). o.lower == q.lower) pairs) (eq-eqb q.lower q.lower refl)))
    (0, omega arith, refl))
told_of_pair (q ∷ pairs) p (inr m) =
    let rest = told_of_pair pairs p m in
    cond_both (q.lower == p.lower) (q ∷ filter (λ (o : RolePair). o.lower == p.lower) pairs) (filter (λ (o : RolePair). o.lower == p.lower) pairs)
    (λ l. Contains (map (λ (o : RolePair). o.higher) l) p.higher) (λ here. Contains-append_right (q.higher ∷ []) (told_above pairs p.lower) p.higher rest) (λ other. rest)

pair_of_told : (pairs : List RolePair) (r s : ℕ) → Contains (told_above pairs r) s → (p : RolePair) × OneOf p pairs × (p.lower ≡ r) × (p.higher ≡ s)
pair_of_told [] r s h = absurd (omega (arith, h.1))
pair_of_told (q ∷ pairs) r s h = elim (cases_Bool (q.lower == r)) [
  | inl here ↦ elim (head_or_later q.higher (told_above pairs r) s
      (subst (λ (l : List RolePair). Contains (map (λ (o : RolePair). o.higher) l) s)
      (cond-true (q.lower == r) (q ∷ filter (λ (o : RolePair). o.lower == r) pairs) (filter (λ (o : RolePair). o.lower == r) pairs) here) h)) [
        | inl is ↦ (q, inl refl, eqb-true q.lower r here, is)
        | inr rest ↦ (let w = pair_of_told pairs r s rest in (w.0, inr w.1, w.2, w.3))
      ]
  | inr other ↦ (
      let w = pair_of_told pairs r s
      (subst (λ (l : List RolePair). Contains (map (λ (o : RolePair). o.higher) l) s)
      (cond-false (q.lower == r) (q ∷ filter (λ (o : RolePair). o.lower == r) pairs) (filter (λ (o : RolePair). o.lower == r) pairs) other) h) in
      (w.0, inr w.1, w.2, w.3))
]

-- ---- the roles of the pairs

pub pairs_below : (n : ℕ) (pairs : List RolePair) → list_all (has_roles_below n) pairs ≡ true → All (λ (p : RolePair). (p.lower < n) × (p.higher < n)) pairs
pairs_below n [] h = All-nil (λ (p : RolePair). (p.lower < n) × (p.higher < n))
pairs_below n (p ∷ pairs) h =
    let both = and_parts (has_roles_below n p) (list_all (has_roles_below n) pairs) h in
    let ends = and_parts (nat_lt p.lower n) (nat_lt p.higher n) both.0 in
    All-cons (λ (q : RolePair). (q.lower < n) × (q.higher < n)) p pairs (ltb-true p.lower n ends.0, ltb-true p.higher n ends.1) (pairs_below n pairs both.1)

of_member : (P : RolePair → Type 0) (pairs : List RolePair) → All P pairs → (p : RolePair) → OneOf p pairs → P p
of_member P [] all p m = absurd m
of_member P (q ∷ pairs) all p (inl is) = subst P (sym is) (All-head P q pairs all)
of_member P (q ∷ pairs) all p (inr m) = of_member P pairs (All-tail P q pairs all) p m

-- ---- what the lists lead to

module _ (n : ℕ) (pairs : List RolePair) (told : List (List ℕ)) (below : list_all (has_roles_below n) pairs ≡ true) (are : AreLists n told (told_above pairs)) where
  pub told_within : AreWithin told
  told_within =
      All-from_get_or (λ list. All (λ r. r < length told) list) told []
      (λ i lt. All-from_get_or (λ r. r < length told) (get_or told i []) 0
      (λ k k_in. inside i (omega (arith, are.each, lt)) (get_or (get_or told i []) k 0) (Contains-get_or (get_or told i []) k 0 k_in)))
    where
      inside : (i : ℕ) → i < n → (s : ℕ) → Contains (get_or told i []) s → s < length told
      inside i lt s h =
          let w = pair_of_told pairs i s (subst (λ (l : List ℕ). Contains l s) (are.at i lt) h) in
          let ends = of_member (λ (p : RolePair). (p.lower < n) × (p.higher < n)) pairs (pairs_below n pairs below) w.0 w.1 in
          omega (arith, are.each, ends.1, w.3)

  in_list : (t s : ℕ) → Contains (get_or told t []) s → Contains (told_above pairs t) s
  in_list t s h = elim (cases_lt t n) [
    | inl lt ↦ subst (λ (l : List ℕ). Contains l s) (are.at t lt) h
    | inr far ↦ (
        let none : get_or told t [] ≡ [] = get_or-eq_default told [] (omega (arith, are.each, far)) in
        let empty : Contains {X = ℕ} [] s = subst (λ (l : List ℕ). Contains l s) none h in absurd (omega (arith, empty.1)))
  ]

  on_by_pair : (r t s : ℕ) → Under pairs r t → Contains (told_above pairs t) s → Under pairs r s
  on_by_pair r t s under h =
      let w = pair_of_told pairs t s h in step w.0 (subst (Under pairs r) (sym w.2) under) w.1 w.3

  under_if_leads : (r s : ℕ) → Leads told r s → Under pairs r s
  under_if_leads r s (once h) = on_by_pair r r s same (in_list r s h)
  under_if_leads r s (on t leads h) = on_by_pair r t s (under_if_leads r t leads) (in_list t s h)

  leads_if_under : (r s : ℕ) → Under pairs r s → (r ≡ s) ⊎ Leads told r s
  leads_if_under r s same = inl refl
  leads_if_under r s (step p under m is) =
      let ends = of_member (λ (q : RolePair). (q.lower < n) × (q.higher < n)) pairs (pairs_below n pairs below) p m in
      let there : Contains (get_or told p.lower []) s =
      subst (Contains (get_or told p.lower [])) is (subst (λ (l : List ℕ). Contains l p.higher) (sym (are.at p.lower ends.0)) (told_of_pair pairs p m)) in
      elim (leads_if_under r p.lower under) [
        | inl here ↦ inr (once (subst (λ (t : ℕ). Contains (get_or told t []) s) (sym here) there))
        | inr leads ↦ inr (on p.lower leads there)
      ]

  pub leads_is_under : (r s : ℕ) → ((r ≡ s) ⊎ Leads told r s) ↔ Under pairs r s
  leads_is_under r s = (
    λ h. elim h [ inl is ↦ subst (Under pairs r) is same | inr leads ↦ under_if_leads r s leads ],
    leads_if_under r s,
  )
