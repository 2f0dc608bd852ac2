-- Lists by number after one more element in one of them.
use Rattle.std.proofs.Common.{◌≡◌, ℕ, ◌<◌, Bool, ◌==◌, List, [], ◌∷◌, ◌++◌, set, get_or, refl, sym, ap, subst, ◌∙◌, inl, inr, arith, cond}
use Rattle.std.proofs.lemmas.Bool.{cases_eq, ne_eqb, eq-eqb}
use Rattle.std.proofs.lemmas.List.{append-nil, length-set, get_or-set_same, get_or-set_other}
use Rattle.cd_index.specs.Lists.{AreLists}

module _ {Y : Type 0} (n : ℕ) (lists : List (List Y)) (f : ℕ → List Y) (are : AreLists n lists f) where
  -- an element more in one list
  pub lists_push : (g : ℕ → List Y) (a : ℕ) (y : Y) (list : List Y) → a < n → list ≡ f a ++ y ∷ []
      → ((b : ℕ) → g b ≡ f b ++ cond (a == b) (y ∷ []) []) → AreLists n (set lists a list) g
  lists_push g a y list lt is grown = record {
    each = length-set lists a list ∙ are.each;
    at = λ b b_in. here b b_in ∙ sym (grown b);
  }
    where
      here : (b : ℕ) → b < n → get_or (set lists a list) b [] ≡ f b ++ cond (a == b) (y ∷ []) []
      here b b_in = elim (cases_eq a b) [
        | inl same ↦ subst (λ (c : ℕ). get_or (set lists a list) c [] ≡ f c ++ cond (a == c) (y ∷ []) []) same
            (get_or-set_same lists a list [] (omega (arith, are.each, lt)) ∙ is
            ∙ ap (λ (t : Bool). f a ++ cond t (y ∷ []) []) (sym (eq-eqb a a refl)))
        | inr other ↦ get_or-set_other lists a b list [] (λ e. other (sym e)) ∙ are.at b b_in ∙ sym (append-nil (f b))
            ∙ ap (λ (t : Bool). f b ++ cond t (y ∷ []) []) (sym (ne_eqb a b other))
      ]
