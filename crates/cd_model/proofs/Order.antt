-- The order of elements is total.
use Rattle.std.proofs.Common.{◌≡◌, ◌&&◌, ℕ, ◌⊎◌, true, List, [], ◌∷◌, eqb, ltb, refl, sym, subst, inl, inr, eqb-true}
use Rattle.std.proofs.lemmas.Bool.{cond_both, and_parts, false≢true}
use Rattle.cd_base.specs.Ascending.{is_covered}
use Rattle.cd_base.specs.Lists.{OneOf}
use Rattle.cd_base.specs.declared.normal.Normal.{Normal}
use Rattle.cd_clause.specs.Dictionary.{is_at_most}
use Rattle.cd_clause.specs.declared.elem.Elem.{Elem}
use Rattle.cd_clause.specs.declared.elem.Elem.TheVariants.{Plain, Exist}
use Rattle.cd_clause.specs.Elements.{rank, Eligible}
use Rattle.cd_clause.specs.Covering.{is_as_strong}
use Rattle.cd_clause.proofs.Dictionary.{at_most_refl, at_most_same, at_most_other, at_most_trans, at_most_antisym}
use Rattle.cd_clause.proofs.Eligibles.{rank_apart}
use Rattle.cd_clause.proofs.Strengths.{part_first}
use Rattle.cd_model.specs.Canonical.{greatest_from, greatest}

-- the greatest element of a clause

abbrev pub Le : Normal → Elem → Elem → Type 0
Le n e f = is_at_most (rank n e) (rank n f) ≡ true

pub le_antisym : (n : Normal) (e f : Elem) → Le n e f → Le n f e → e ≡ f
le_antisym n e f p q = rank_apart n e f (at_most_antisym (rank n e) (rank n f) p q)

pub le_trans : (n : Normal) (e f g : Elem) → Le n e f → Le n f g → Le n e g
le_trans n e f g p q = at_most_trans (rank n e) (rank n f) (rank n g) p q

-- what is at least as strong as an element is at most it
exist_le : (r s : ℕ) (k l : List ℕ) → (eqb r s && is_covered ltb l k) ≡ true → is_at_most (1 ∷ r ∷ k) (1 ∷ s ∷ l) ≡ true
exist_le r s k l h =
    let p = and_parts (eqb r s) (is_covered ltb l k) h in
    at_most_same 1 1 (r ∷ k) (s ∷ l) refl (at_most_same r s k l (eqb-true r s p.0) (part_first l k p.1))

pub strong_le : (n : Normal) (e f : Elem) → is_as_strong e f ≡ true → Le n e f
strong_le n (Plain a) (Plain b) h = subst (λ z. Le n (Plain a) (Plain z)) (eqb-true a b h) (at_most_refl (rank n (Plain a)))
strong_le n (Plain a) (Exist s l) h = absurd (false≢true h)
strong_le n (Exist r k) (Plain b) h = absurd (false≢true h)
strong_le n (Exist r k) (Exist s l) h = exist_le r s k l h

greatest_from_member : (n : Normal) (e : Elem) (fs : List Elem) → (greatest_from n e fs ≡ e) ⊎ OneOf (greatest_from n e fs) fs
greatest_from_member n e [] = inl refl
greatest_from_member n e (f ∷ fs) =
    cond_both (is_at_most (rank n e) (rank n f)) f e (λ z. (greatest_from n z fs ≡ e) ⊎ OneOf (greatest_from n z fs) (f ∷ fs))
    (λ t. elim (greatest_from_member n f fs) [ inl q ↦ inr (inl q) | inr m ↦ inr (inr m) ])
    (λ t. elim (greatest_from_member n e fs) [ inl q ↦ inl q | inr m ↦ inr (inr m) ])

greatest_from_top : (n : Normal) (e : Elem) (fs : List Elem) → (g : Elem) → OneOf g (e ∷ fs) → Le n g (greatest_from n e fs)
greatest_from_top n e [] g (inl q) = subst (λ w. Le n w e) (sym q) (at_most_refl (rank n e))
greatest_from_top n e [] g (inr m) = absurd m
greatest_from_top n e (f ∷ fs) g m =
    cond_both (is_at_most (rank n e) (rank n f)) f e (λ z. Le n g (greatest_from n z fs))
    (λ t. elim m [
      | inl q ↦ le_trans n g f (greatest_from n f fs) (subst (λ w. Le n w f) (sym q) t) (greatest_from_top n f fs f (inl refl))
      | inr k ↦ greatest_from_top n f fs g k
    ])
    (λ t. elim m [
      | inl q ↦ greatest_from_top n e fs g (inl q)
      | inr k ↦ elim k [
        | inl q ↦ le_trans n g e (greatest_from n e fs) (subst (λ w. Le n w e) (sym q) (at_most_other (rank n e) (rank n f) t)) (greatest_from_top n e fs e (inl refl))
        | inr j ↦ greatest_from_top n e fs g (inr j)
      ]
    ])

pub greatest_member : (n : Normal) (c : List Elem) → (c ≡ [] → ⊥) → OneOf (greatest n c) c
greatest_member n [] h = absurd (h refl)
greatest_member n (e ∷ es) h = greatest_from_member n e es

pub greatest_top : (n : Normal) (c : List Elem) (f : Elem) → OneOf f c → Le n f (greatest n c)
greatest_top n [] f m = absurd m
greatest_top n (e ∷ es) f m = greatest_from_top n e es f m

pub greatest_eligible : (n : Normal) (c : List Elem) → (c ≡ [] → ⊥) → Eligible n (greatest n c) c
greatest_eligible n c h = record { isin = greatest_member n c h; top = λ f m. greatest_top n c f m }
