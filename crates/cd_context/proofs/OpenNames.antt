-- The names that live clauses leave open.
use Rattle.std.proofs.Common.{◌≡◌, ◌↔◌, ◌<◌, ℕ, Bool, true, false, List, [], ◌∷◌, filter, length, get_or, refl, sym, ◌∙◌, subst, inl, inr, arith}
use Rattle.std.proofs.lemmas.Bool.{cond_both, both_ways}
use Rattle.cd_base.specs.Ascending.{Ascending}
use Rattle.cd_base.specs.Lists.{OneOf, SameSet}
use Rattle.cd_base.specs.Keys.{is_named}
use Rattle.cd_base.specs.declared.normal.Normal.{Normal}
use Rattle.cd_base.proofs.Members.{member_at, member_get}
use Rattle.cd_clause.specs.Elements.{Eligible, IsCase, is_before}
use Rattle.cd_clause.specs.Numbers.{picked}
use Rattle.cd_clause.specs.declared.elem.Elem.{Elem}
use Rattle.cd_clause.specs.declared.elem.Elem.TheVariants.{Plain}
use Rattle.cd_clause.proofs.Order.{elems_strict}
use Rattle.cd_store.proofs.Picks.{picked_from, picked_in}
use Rattle.cd_context.specs.OpenNames.{IsOpenName}

-- b is left open by the clause of the number at place k
abbrev pub OpensAt : Normal → List (List Elem) → List ℕ → ℕ → ℕ → Type 0
OpensAt n clauses live k b = IsCase n b (get_or clauses (get_or live k 0) [])

-- some live clause leaves it open
abbrev pub OpensSome : Normal → List (List Elem) → List ℕ → ℕ → Type 0
OpensSome n clauses live b = (c : List Elem) × OneOf c (picked clauses live) × IsCase n b c

pub opens_somewhere : (n : Normal) (clauses : List (List Elem)) (live : List ℕ) (b : ℕ) → ((k : ℕ) × (k < length live) × OpensAt n clauses live k b) ↔ OpensSome n clauses live b
opens_somewhere n clauses live b = (
  λ q. (get_or clauses (get_or live q.0 0) [], picked_in clauses live (get_or live q.0 0) (member_get live q.0 0 q.1), q.2),
  λ s. (let p = picked_from clauses live s.0 s.1 in let w = member_at p.0 live p.1 in
      let e : s.0 ≡ get_or clauses (get_or live w.0 0) [] = subst (λ (i : ℕ). s.0 ≡ get_or clauses i []) (sym (w.2 0)) p.2 in
      (w.0, w.1, subst (λ c. IsCase n b c) e s.2)),
)

filter_in : (p : ℕ → Bool) (b : ℕ) (xs : List ℕ) → OneOf b (filter p xs) → (p b ≡ true) × OneOf b xs
filter_in p b [] m = absurd m
filter_in p b (x ∷ xs) m =
    cond_both (p x) (x ∷ filter p xs) (filter p xs) (λ l. OneOf b l → (p b ≡ true) × OneOf b (x ∷ xs))
    (λ t k. elim k [ inl q ↦ (subst (λ z. p z ≡ true) (sym q) t, inl q) | inr j ↦ (let r = filter_in p b xs j in (r.0, inr r.1)) ])
    (λ t k. let r = filter_in p b xs k in (r.0, inr r.1))
    m

in_filter : (p : ℕ → Bool) (b : ℕ) (xs : List ℕ) → p b ≡ true → OneOf b xs → OneOf b (filter p xs)
in_filter p b [] t m = absurd m
in_filter p b (x ∷ xs) t m =
    cond_both (p x) (x ∷ filter p xs) (filter p xs) (λ l. OneOf b l)
    (λ u. elim m [ inl q ↦ inl q | inr k ↦ inr (in_filter p b xs t k) ])
    (λ u. elim m [ inl q ↦ absurd (both_ways (p x) u (subst (λ z. p z ≡ true) q t)) | inr k ↦ in_filter p b xs t k ])

-- the named ones among what was gathered
pub open_named : (n : Normal) (clauses : List (List Elem)) (live : List ℕ) (atoms sorted names : List ℕ) → ((b : ℕ) → OneOf b atoms ↔ OpensSome n clauses live b) → ((b : ℕ) → OneOf b sorted ↔ OneOf b atoms) → names ≡ filter (is_named n) sorted
    → (b : ℕ) → OneOf b names ↔ IsOpenName n (picked clauses live) b
open_named n clauses live atoms sorted names are same e b = (
  λ m. (let r = filter_in (is_named n) b sorted (subst (OneOf b) e m) in (r.0, (are b).0 ((same b).0 r.1))),
  λ o. subst (OneOf b) (sym e) (in_filter (is_named n) b sorted o.0 ((same b).1 ((are b).1 o.1))),
)

-- ---- one clause

-- where an ascending clause has fewer than two elements, its greatest is alone
pub few_alone : (n : Normal) (b : ℕ) (c : List Elem) → length c < 2 → IsCase n b c → ⊥
few_alone n b [] l o = o.0.isin
few_alone n b (e ∷ []) l o = o.1 (elim o.0.isin [ inl q ↦ subst (λ x. SameSet (e ∷ []) (x ∷ [])) (sym q) (λ x m. m, λ x m. m) | inr z ↦ absurd z ])
few_alone n b (e ∷ f ∷ c) l o = absurd (omega arith)

-- and where it has two or more, it isn't
pub more_others : (n : Normal) (b : ℕ) (c : List Elem) → Ascending is_before c → (length c < 2 → ⊥) → Eligible n (Plain b) c → IsCase n b c
more_others n b c a l e = (e, λ s. l (short c a s))
  where
    short : (c : List Elem) → Ascending is_before c → SameSet c (Plain b ∷ []) → length c < 2
    short [] a s = omega arith
    short (x ∷ []) a s = omega arith
    short (x ∷ y ∷ c) a s =
        let p : x ≡ Plain b = elim (s.0 x (inl refl)) [ inl q ↦ q | inr z ↦ absurd z ] in
        let q : y ≡ Plain b = elim (s.0 y (inr (inl refl))) [ inl q ↦ q | inr z ↦ absurd z ] in
        absurd (both_ways (is_before x y) (subst (λ z. is_before x z ≡ false) (p ∙ sym q) (elems_strict.irreflexive x)) (a.0 y (inl refl)))
