-- The atoms that stand alone in clauses.
use Rattle.std.proofs.Common.{◌≡◌, ◌↔◌, ℕ, ◌<◌, true, List, [], ◌∷◌, length, get_or, refl, sym, ap, ◌∙◌, subst, inl, inr}
use Rattle.cd_base.specs.Lists.{SameSet}
use Rattle.cd_base.proofs.Members.{member_at, member_get}
use Rattle.cd_base.specs.Ascending.{Ascending}
use Rattle.cd_clause.specs.Elements.{is_before}
use Rattle.cd_clause.specs.Numbers.{picked}
use Rattle.cd_clause.specs.declared.elem.Elem.{Elem}
use Rattle.cd_clause.specs.declared.elem.Elem.TheVariants.{Plain}
use Rattle.cd_clause.specs.Derivations.{IsSingle}
use Rattle.cd_context.specs.UnitClauses.{is_only}
use Rattle.cd_context.proofs.LiveClauses.{only_single}
use Rattle.cd_store.proofs.Picks.{picked_from, picked_in}

-- b stands alone in the clause of the number at place k
abbrev pub StandsAlone : List (List Elem) → List ℕ → ℕ → ℕ → Type 0
StandsAlone clauses live k b = SameSet (get_or clauses (get_or live k 0) []) (Plain b ∷ [])

-- a clause has one atom alone
pub one_alone : (c : List Elem) (a b : ℕ) → SameSet c (Plain a ∷ []) → SameSet c (Plain b ∷ []) → b ≡ a
one_alone c a b s t = elim (s.0 (Plain b) (t.1 (Plain b) (inl refl))) [ inl e ↦ let q : Plain b ≡ Plain a = e in cc | inr z ↦ absurd z ]

pub alone_somewhere : (clauses : List (List Elem)) (live : List ℕ) (b : ℕ) → ((k : ℕ) × (k < length live) × StandsAlone clauses live k b) ↔ IsSingle (picked clauses live) b
alone_somewhere clauses live b = (
  λ q. (get_or clauses (get_or live q.0 0) [], picked_in clauses live (get_or live q.0 0) (member_get live q.0 0 q.1), q.2),
  λ s. (let p = picked_from clauses live s.0 s.1 in let w = member_at p.0 live p.1 in
      (w.0, w.1, subst (λ c. SameSet c (Plain b ∷ [])) (p.2 ∙ ap (λ n. get_or clauses n []) (sym (w.2 0))) s.2)),
)

-- where the list is that of one atom alone, and where it is of none
pub one_if_only : (a b : ℕ) (es c : List Elem) → es ≡ c → Ascending is_before c → is_only a es ≡ true → (SameSet c (Plain b ∷ []) → b ≡ a) × (b ≡ a → SameSet c (Plain b ∷ []))
one_if_only a b es c e v h =
    let s = (only_single a c v).0 (subst (λ w. is_only a w ≡ true) e h) in
    (λ t. one_alone c a b s t, λ q. subst (λ x. SameSet c (Plain x ∷ [])) (sym q) s)

pub alone_if_only : (b : ℕ) (es c : List Elem) → es ≡ c → Ascending is_before c → SameSet c (Plain b ∷ []) → is_only b es ≡ true
alone_if_only b es c e v s = subst (λ w. is_only b w ≡ true) (sym e) ((only_single b c v).1 s)
