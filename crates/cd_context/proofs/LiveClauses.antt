-- The empty clause and the clauses of one atom among live clauses.
use Rattle.std.proofs.Common.{◌≡◌, ◌↔◌, ℕ, zero, suc, ◌+◌, ◌-◌, ◌<◌, ◌==◌, Bool, true, false, inl, inr, List, [], ◌∷◌, length, get_or, reverse, refl, ap, sym, ◌∙◌, subst, arith, eqb-true, eq-eqb}
use Rattle.std.proofs.lemmas.Bool.{cases_lt, false≢true}
use Rattle.std.proofs.lemmas.List.{get_or-reverse, length-reverse}
use Rattle.cd_base.specs.Ascending.{Ascending}
use Rattle.cd_base.specs.Lists.{OneOf, SameSet, Within}
use Rattle.cd_clause.specs.Covering.{Covers}
use Rattle.cd_base.proofs.Members.{member_at, member_get}
use Rattle.cd_clause.specs.Elements.{is_before}
use Rattle.cd_clause.specs.Numbers.{picked}
use Rattle.cd_clause.specs.declared.elem.Elem.{Elem}
use Rattle.cd_clause.specs.declared.elem.Elem.TheVariants.{Plain, Exist}
use Rattle.cd_clause.proofs.Order.{elems_strict}
use Rattle.cd_clause.specs.Derivations.{IsSingle}
use Rattle.cd_context.specs.UnitClauses.{is_only}
use Rattle.cd_store.specs.Store.{CoveredByNoEarlier, IsAscending, IsStore}
use Rattle.cd_store.proofs.Helpers.{get_same}
use Rattle.cd_store.proofs.Picks.{picked_from, picked_in}

-- numbers that ascend
ascends_at : (ns : List ℕ) (i k : ℕ) → IsAscending ns → i < k → k < length ns → get_or ns i 0 < get_or ns k 0
ascends_at [] i k a l h = absurd (omega arith)
ascends_at (n ∷ ns) zero zero a l h = absurd (omega arith)
ascends_at (n ∷ ns) zero (suc k) a l h = a.0 _ (member_get ns k 0 (omega arith))
ascends_at (n ∷ ns) (suc i) zero a l h = absurd (omega arith)
ascends_at (n ∷ ns) (suc i) (suc k) a l h = ascends_at ns i k a.1 (omega arith) (omega arith)

newer_at : (cs : List (List Elem)) (i k : ℕ) → CoveredByNoEarlier cs → i < k → k < length cs → Covers (get_or cs k []) (get_or cs i []) → ⊥
newer_at [] i k a l h w = absurd (omega arith)
newer_at (c ∷ cs) zero zero a l h w = absurd (omega arith)
newer_at (c ∷ cs) zero (suc k) a l h w = a.0 _ (member_get cs k [] (omega arith)) w
newer_at (c ∷ cs) (suc i) zero a l h w = absurd (omega arith)
newer_at (c ∷ cs) (suc i) (suc k) a l h w = newer_at cs i k a.1 (omega arith) (omega arith) w

-- no stored clause is covered by one of a lower number
pub no_earlier : (cs : List (List Elem)) (n m : ℕ) → CoveredByNoEarlier (reverse cs) → n < m → m < length cs → Covers (get_or cs n []) (get_or cs m []) → ⊥
no_earlier cs n m a l h w =
    let e : length (reverse cs) ≡ length cs = length-reverse cs in
    let p : length cs - 1 - (length cs - 1 - m) ≡ m = omega arith in
    let q : length cs - 1 - (length cs - 1 - n) ≡ n = omega arith in
    let pm : get_or (reverse cs) (length cs - 1 - m) [] ≡ get_or cs m [] = get_or-reverse cs (length cs - 1 - m) [] (omega arith) ∙ ap (λ k. get_or cs k []) p in
    let pn : get_or (reverse cs) (length cs - 1 - n) [] ≡ get_or cs n [] = get_or-reverse cs (length cs - 1 - n) [] (omega arith) ∙ ap (λ k. get_or cs k []) q in
    newer_at (reverse cs) (length cs - 1 - m) (length cs - 1 - n) a (omega arith) (omega arith)
    (subst (λ c. Covers c (get_or (reverse cs) (length cs - 1 - m) [])) (sym pn) (subst (λ c. Covers (get_or cs n []) c) (sym pm) w))

-- where the empty clause is live, it is the last one
pub last_is_empty : (clauses : List (List Elem)) (live : List ℕ) → IsStore clauses live → OneOf [] (picked clauses live) → get_or clauses (get_or live (length live - 1) 0) [] ≡ []
last_is_empty clauses live s h =
    let r = picked_from clauses live [] h in
    let k = member_at r.0 live r.1 in
    elim (cases_lt k.0 (length live - 1)) [
      | inl b ↦ absurd (no_earlier clauses r.0 (get_or live (length live - 1) 0) s.apart
          (subst (λ z. z < get_or live (length live - 1) 0) (k.2 0) (ascends_at live k.0 (length live - 1) s.ascends b (omega arith)))
          (s.in_range _ (member_get live (length live - 1) 0 (omega arith)))
          (subst (λ c. Covers c (get_or clauses (get_or live (length live - 1) 0) [])) r.2 (λ x m. absurd m)))
      | inr b ↦ let e : length live - 1 ≡ k.0 = omega arith in ap (λ z. get_or clauses (get_or live z 0) []) e ∙ ap (λ z. get_or clauses z []) (k.2 0) ∙ sym r.2
    ]

-- an ascending list has the elements of an atom alone just where it is that list
pub only_single : (a : ℕ) (c : List Elem) → Ascending is_before c → (is_only a c ≡ true) ↔ SameSet c (Plain a ∷ [])
only_single a c v = (there a c, back a c v)
  where
    there : (a : ℕ) (c : List Elem) → is_only a c ≡ true → SameSet c (Plain a ∷ [])
    there a [] h = absurd (false≢true h)
    there a (Plain b ∷ []) h = subst (λ z. SameSet (Plain z ∷ []) (Plain a ∷ [])) (sym (eqb-true b a h)) ((λ x m. m), (λ x m. m))
    there a (Exist r k ∷ []) h = absurd (false≢true h)
    there a (e ∷ f ∷ c) h = absurd (false≢true h)

    one : (a : ℕ) (e : Elem) (c : List Elem) → Within (e ∷ c) (Plain a ∷ []) → (f : Elem) → OneOf f (e ∷ c) → f ≡ Plain a
    one a e c w f m = elim (w f m) [ inl q ↦ q | inr z ↦ absurd z ]

    back : (a : ℕ) (c : List Elem) → Ascending is_before c → SameSet c (Plain a ∷ []) → is_only a c ≡ true
    back a [] v s = absurd (s.1 (Plain a) (inl refl))
    back a (Plain b ∷ []) v s = let e : Plain b ≡ Plain a = one a (Plain b) [] s.0 (Plain b) (inl refl) in let q : b ≡ a = cc in eq-eqb b a q
    back a (Exist r k ∷ []) v s = let e : Exist r k ≡ Plain a = one a (Exist r k) [] s.0 (Exist r k) (inl refl) in cc
    back a (e ∷ f ∷ c) v s =
        let p : e ≡ Plain a = one a e (f ∷ c) s.0 e (inl refl) in
        let q : f ≡ Plain a = one a e (f ∷ c) s.0 f (inr (inl refl)) in
        let t : is_before e f ≡ true = v.0 f (inl refl) in
        let n : is_before (Plain a) (Plain a) ≡ false = elems_strict.irreflexive (Plain a) in
        absurd (false≢true (sym n ∙ subst (λ z. is_before (Plain a) z ≡ true) q (subst (λ z. is_before z f ≡ true) p t)))

-- the last live clause is empty just where the empty clause is live
pub empty_at_last : (clauses : List (List Elem)) (live : List ℕ) (held : List Elem) (b : Bool) → IsStore clauses live → 0 < length live → held ≡ get_or clauses (get_or live (length live - 1) 0) held
    → b ≡ (length held == 0) → (b ≡ true) ↔ OneOf [] (picked clauses live)
empty_at_last clauses live held b s l e t = (there, back)
  where
    isin : OneOf (get_or live (length live - 1) 0) live
    isin = member_get live (length live - 1) 0 (omega arith)

    same : held ≡ get_or clauses (get_or live (length live - 1) 0) []
    same = e ∙ get_same clauses (get_or live (length live - 1) 0) held [] (s.in_range _ isin)

    none : (c : List Elem) → (length c == 0) ≡ true → c ≡ []
    none [] h = refl
    none (x ∷ c) h = let e : length (x ∷ c) ≡ 0 = eqb-true (length (x ∷ c)) 0 h in absurd (omega arith)

    there : b ≡ true → OneOf [] (picked clauses live)
    there h = subst (λ c. OneOf c (picked clauses live)) (sym same ∙ none held (sym t ∙ h)) (picked_in clauses live _ isin)

    back : OneOf [] (picked clauses live) → b ≡ true
    back m = t ∙ ap (λ c. length c == 0) (same ∙ last_is_empty clauses live s m)

module _ (clauses : List (List Elem)) (live : List ℕ) (a : ℕ) (range : (n : ℕ) → OneOf n live → n < length clauses) where
  pub single_at : (i : ℕ) (held : List Elem) → i < length live → held ≡ get_or clauses (get_or live i 0) held → SameSet held (Plain a ∷ []) → IsSingle (picked clauses live) a
  single_at i held l e s =
      let m = member_get live i 0 l in
      (held, subst (λ c. OneOf c (picked clauses live)) (sym (e ∙ get_same clauses (get_or live i 0) held [] (range _ m))) (picked_in clauses live _ m), s)

  pub one_less : (i : ℕ) (held : List Elem) → i < length live → held ≡ get_or clauses (get_or live i 0) held → (SameSet held (Plain a ∷ []) → ⊥)
      → ((k : ℕ) → k < i → SameSet (get_or clauses (get_or live k 0) []) (Plain a ∷ []) → ⊥) → (k : ℕ) → k < i + 1 → SameSet (get_or clauses (get_or live k 0) []) (Plain a ∷ []) → ⊥
  one_less i held l e nope h k b w = elim (cases_lt k i) [
    | inl j ↦ h k j w
    | inr j ↦ let q : k ≡ i = omega arith in
        nope (subst (λ c. SameSet c (Plain a ∷ [])) (ap (λ z. get_or clauses (get_or live z 0) []) q ∙ get_same clauses (get_or live i 0) [] held (range _ (member_get live i 0 l)) ∙ sym e) w)
  ]

  pub none_single : ((k : ℕ) → k < length live → SameSet (get_or clauses (get_or live k 0) []) (Plain a ∷ []) → ⊥) → IsSingle (picked clauses live) a → ⊥
  none_single h s =
      let p = picked_from clauses live s.0 s.1 in
      let q = member_at p.0 live p.1 in
      h q.0 q.1 (subst (λ c. SameSet c (Plain a ∷ [])) (p.2 ∙ ap (λ n. get_or clauses n []) (sym (q.2 0))) s.2)
