-- Two lists that rise strictly by a total order and have the same elements are equal.
use Rattle.std.proofs.Common.{◌≡◌, ℕ, List, [], ◌∷◌, refl, sym, subst, ◌∙◌, inl, inr}
use Rattle.std.specs.List.{Contains}
use Rattle.std.specs.List.Sorted.{IsStrictlySortedBy, IsStrictlyIncreasing}
use Rattle.std.specs.Cmp.{IsTotalOrder}
use Rattle.std.specs.declared.cmp.Ordering.{Ordering}
use Rattle.std.specs.declared.cmp.Ordering.TheVariants.{Less, Equal}
use Rattle.std.proofs.lemmas.Cmp.{tied_itself, nat_cmp_total}
use Rattle.std.proofs.lemmas.List.Elements.{All-contains, All-from_recursion}
use Rattle.std.proofs.lemmas.Map.Keys.{sorted_head, sorted_tail, sorted_from_strictly_increasing}
use Rattle.cd_taxonomy.proofs.Lists.{Contains-nil, Contains-first, Contains-later, Contains-cases}

module _ {K : Type 0} {R : K → K → Ordering} (o : IsTotalOrder R) where
  not_less_itself : (x : K) → R x x ≡ Less → ⊥
  not_less_itself x less = let tied : R x x ≡ Equal = tied_itself o x in cc

  less_from_first : (x : K) (xs : List K) (k : K) → IsStrictlySortedBy R (x ∷ xs) → Contains xs k → R x k ≡ Less
  less_from_first x xs k up at = All-contains (λ y. R x y ≡ Less) xs k (All-from_recursion (λ y. R x y ≡ Less) xs (sorted_head R x xs up)) at

  same_first : (x y : K) (xs ys : List K) → IsStrictlySortedBy R (x ∷ xs) → IsStrictlySortedBy R (y ∷ ys)
      → Contains (y ∷ ys) x → Contains (x ∷ xs) y → x ≡ y
  same_first x y xs ys up other_up x_in y_in =
      elim (Contains-cases y ys x x_in) [
        | inl same ↦ sym same
        | inr x_later ↦ elim (Contains-cases x xs y y_in) [
          | inl same ↦ same
          | inr y_later ↦ absurd (not_less_itself x (o.trans x y x (less_from_first x xs y up y_later) (less_from_first y ys x other_up x_later)))
        ]
      ]

  kept_later : (x y : K) (xs ys : List K) → IsStrictlySortedBy R (x ∷ xs) → x ≡ y → (k : K) → Contains xs k → Contains (y ∷ ys) k → Contains ys k
  kept_later x y xs ys up same k k_later k_in =
      elim (Contains-cases y ys k k_in) [
        | inl is ↦ absurd (not_less_itself x (subst (λ (z : K). R x z ≡ Less) (sym (same ∙ is)) (less_from_first x xs k up k_later)))
        | inr at ↦ at
      ]

  pub same_from_sorted : (xs ys : List K) → IsStrictlySortedBy R xs → IsStrictlySortedBy R ys
      → ((k : K) → Contains xs k → Contains ys k) → ((k : K) → Contains ys k → Contains xs k) → xs ≡ ys
  same_from_sorted [] [] up other_up there back = refl
  same_from_sorted [] (y ∷ ys) up other_up there back = absurd (Contains-nil y (back y (Contains-first y ys)))
  same_from_sorted (x ∷ xs) [] up other_up there back = absurd (Contains-nil x (there x (Contains-first x xs)))
  same_from_sorted (x ∷ xs) (y ∷ ys) up other_up there back =
      let first : x ≡ y = same_first x y xs ys up other_up (there x (Contains-first x xs)) (back y (Contains-first y ys)) in
      let rest : xs ≡ ys = same_from_sorted xs ys (sorted_tail R x xs up) (sorted_tail R y ys other_up)
      (λ k at. kept_later x y xs ys up first k at (there k (Contains-later x xs k at)))
      (λ k at. kept_later y x ys xs other_up (sym first) k at (back k (Contains-later y ys k at))) in
      cc

-- the same at numbers
pub same_from_increasing : (xs ys : List ℕ) → IsStrictlyIncreasing xs → IsStrictlyIncreasing ys
    → ((k : ℕ) → Contains xs k → Contains ys k) → ((k : ℕ) → Contains ys k → Contains xs k) → xs ≡ ys
same_from_increasing xs ys up other_up =
    same_from_sorted nat_cmp_total xs ys (sorted_from_strictly_increasing xs up) (sorted_from_strictly_increasing ys other_up)
