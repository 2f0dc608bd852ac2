-- Clauses of at most one atom each, none of which an earlier one covers, are few.
use Rattle.std.proofs.Common.{◌≡◌, ◌⊎◌, ℕ, suc, ◌≤◌, List, [], ◌∷◌, length, refl, sym, ◌∙◌, ap, subst, inl, inr, arith, true, eq-eqb}
use Rattle.cd_base.specs.Lists.{OneOf, SameSet, HasNoRepeats}
use Rattle.cd_clause.specs.Covering.{Covers, is_as_strong}
use Rattle.cd_clause.specs.declared.elem.Elem.{Elem}
use Rattle.cd_clause.specs.declared.elem.Elem.TheVariants.{Plain}
use Rattle.cd_store.specs.Store.{CoveredByNoEarlier}

-- ---- lists

-- the list with one place of the member left out
without : {X : Type 0} (x : X) (ys : List X) → OneOf x ys → (less : List X) × (length ys ≡ suc (length less)) × ((z : X) → OneOf z ys → (z ≡ x) ⊎ OneOf z less)
without x [] m = absurd m
without x (y ∷ ys) (inl e) = (ys, omega arith, λ z n. elim n [ inl q ↦ inl (q ∙ sym e) | inr k ↦ inr k ])
without x (y ∷ ys) (inr m) =
    let r = without x ys m in (
      y ∷ r.0,
      omega (arith, r.1),
      λ z n. elim n [ inl q ↦ inr (inl q) | inr k ↦ elim (r.2 z k) [ inl e ↦ inl e | inr l ↦ inr (inr l) ] ],
    )

-- a list without repeats is no longer than one that it is within
pub no_longer : {X : Type 0} (xs ys : List X) → HasNoRepeats xs → ((x : X) → OneOf x xs → OneOf x ys) → length xs ≤ length ys
no_longer [] ys apart within = omega arith
no_longer (x ∷ xs) ys apart within =
    let r = without x ys (within x (inl refl)) in
    let k = no_longer xs r.0 apart.1 (λ z m. elim (r.2 z (within z (inr m))) [
      | inl e ↦ absurd (apart.0 (subst (λ w. OneOf w xs) e m))
      | inr n ↦ n
    ]) in
    omega (arith, r.1, k)

-- ---- clauses

-- the clause is empty, or that of one of these atoms
abbrev pub IsFew : List ℕ → List Elem → Type 0
IsFew atoms c = (c ≡ []) ⊎ ((a : ℕ) × SameSet c (Plain a ∷ []) × OneOf a atoms)

same_covers : (a : ℕ) (c d : List Elem) → SameSet d (Plain a ∷ []) → SameSet c (Plain a ∷ []) → Covers d c
same_covers a c d s t e m = (
  Plain a,
  t.1 (Plain a) (inl refl),
  elim (s.0 e m) [ inl q ↦ subst (λ f. is_as_strong f (Plain a) ≡ true) (sym q) (eq-eqb a a refl) | inr z ↦ absurd z ],
)

none_covers : (d c : List Elem) → d ≡ [] → Covers d c
none_covers d c q e m = absurd (subst (OneOf e) q m)

-- the atoms of clauses that are not empty, one each
pub record HasAtoms (atoms : List ℕ) (cs : List (List Elem)) : Type 0 where
  pub list : List ℕ
  pub each : length list ≡ length cs
  pub apart : HasNoRepeats list
  pub within : (a : ℕ) → OneOf a list → OneOf a atoms
  pub from : (a : ℕ) → OneOf a list → (c : List Elem) × OneOf c cs × SameSet c (Plain a ∷ [])

its_atoms : (atoms : List ℕ) (cs : List (List Elem)) → ((c : List Elem) → OneOf c cs → IsFew atoms c) → ((c : List Elem) → OneOf c cs → c ≡ [] → ⊥)
    → CoveredByNoEarlier cs → HasAtoms atoms cs
its_atoms atoms [] few some apart = record { list = []; each = refl; apart = tt; within = λ a m. absurd m; from = λ a m. absurd m }
its_atoms atoms (c ∷ cs) few some apart =
    let r = its_atoms atoms cs (λ d m. few d (inr m)) (λ d m. some d (inr m)) apart.1 in
    elim (few c (inl refl)) [
      | inl none ↦ absurd (some c (inl refl) none)
      | inr u ↦ record {
        list = u.0 ∷ r.list;
        each = ap suc r.each;
        apart = (λ m. let w = r.from u.0 m in apart.0 w.0 w.1 (same_covers u.0 c w.0 w.2 u.1), r.apart);
        within = λ a m. elim m [ inl q ↦ subst (λ b. OneOf b atoms) (sym q) u.2 | inr k ↦ r.within a k ];
        from = λ a m. elim m [
          | inl q ↦ (c, inl refl, subst (λ b. SameSet c (Plain b ∷ [])) (sym q) u.1)
          | inr k ↦ (let w = r.from a k in (w.0, inr w.1, w.2))
        ];
      }
    ]

-- the newest first: it may be empty, and no other
pub few_stored : (atoms : List ℕ) (cs : List (List Elem)) → ((c : List Elem) → OneOf c cs → IsFew atoms c) → CoveredByNoEarlier cs → length cs ≤ suc (length atoms)
few_stored atoms [] few apart = omega arith
few_stored atoms (c ∷ cs) few apart =
    let r = its_atoms atoms cs (λ d m. few d (inr m)) (λ d m q. apart.0 d m (none_covers d c q)) apart.1 in
    let l = no_longer r.list atoms r.apart r.within in
    omega (arith, r.each, l)
