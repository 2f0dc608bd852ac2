-- The elements of a list by recursion, and what filters and maps have, beside what the library says.
use Rattle.std.proofs.Common.{◌≡◌, ◌⊎◌, ℕ, zero, suc, ◌+◌, ◌<◌, Bool, true, false, ◌&&◌, cond, List, [], ◌∷◌, length, map, filter, get_or, refl, sym, ap, subst, ◌∙◌, inl, inr, arith}
use Rattle.std.specs.List.{All, AllByRecursion, AllPairs, Contains}
use Rattle.std.specs.List.Sorted.{IsStrictlyIncreasing}
use Rattle.std.proofs.lemmas.Bool.{false≢true, cond_both}
use Rattle.std.proofs.lemmas.List.{get_or-map, length-map}
use Rattle.std.proofs.lemmas.List.Elements.{recursion_from_All, All-contains, All-contains_itself, All-filter, All-map, Contains-get_or, filter_passes}

pub same_tests : (a b : Bool) → (a ≡ true → b ≡ true) → (b ≡ true → a ≡ true) → a ≡ b
same_tests true b to from = sym (to refl)
same_tests false true to from = from refl
same_tests false false to from = refl

module _ {X : Type 0} where
  -- ---- elements

  pub Contains-nil : (x : X) → Contains [] x → ⊥
  Contains-nil x (i, within, at) = absurd (omega arith)

  pub Contains-first : (x : X) (xs : List X) → Contains (x ∷ xs) x
  Contains-first x xs = (0, omega arith, refl)

  pub Contains-later : (y : X) (xs : List X) (x : X) → Contains xs x → Contains (y ∷ xs) x
  Contains-later y xs x (i, within, at) = (suc i, omega arith, at)

  pub Contains-cases : (y : X) (xs : List X) (x : X) → Contains (y ∷ xs) x → (y ≡ x) ⊎ Contains xs x
  Contains-cases y xs x (zero, within, at) = inl at
  Contains-cases y xs x (suc i, within, at) = inr (i, omega arith, at)

  -- ---- filters

  filter_same_by : (p q : X → Bool) (xs : List X) → AllByRecursion (λ x. p x ≡ q x) xs → filter p xs ≡ filter q xs
  filter_same_by p q [] h = refl
  filter_same_by p q (x ∷ xs) h = ap (λ t. cond t (x ∷ filter p xs) (filter p xs)) h.0 ∙ ap (λ ys. cond (q x) (x ∷ ys) ys) (filter_same_by p q xs h.1)

  -- two tests that agree at each element of a list keep the same elements
  pub filter_same : (p q : X → Bool) (xs : List X) → All (λ x. p x ≡ q x) xs → filter p xs ≡ filter q xs
  filter_same p q xs h = filter_same_by p q xs (recursion_from_All (λ x. p x ≡ q x) xs h)

  pub filter_twice : (p q : X → Bool) (xs : List X) → filter q (filter p xs) ≡ filter (λ x. p x && q x) xs
  filter_twice p q [] = refl
  filter_twice p q (x ∷ xs) =
      elim (p x) as (λ t. filter q (cond t (x ∷ filter p xs) (filter p xs)) ≡ cond (t && q x) (x ∷ filter (λ y. p y && q y) xs) (filter (λ y. p y && q y) xs)) [
        | true ↦ ap (λ (ys : List X). cond (q x) (x ∷ ys) ys) (filter_twice p q xs)
        | false ↦ filter_twice p q xs
      ]

  pub keeps_all : (xs : List X) → filter (λ _. true) xs ≡ xs
  keeps_all [] = refl
  keeps_all (x ∷ xs) = ap (λ (ys : List X). x ∷ ys) (keeps_all xs)

  pub Contains-filter : (p : X → Bool) (xs : List X) (x : X) → Contains xs x → p x ≡ true → Contains (filter p xs) x
  Contains-filter p [] x at passes = absurd (Contains-nil x at)
  Contains-filter p (y ∷ ys) x at passes =
      elim (Contains-cases y ys x at) [
        | inl same ↦ cond_both (p y) (y ∷ filter p ys) (filter p ys) (λ zs. Contains zs x)
            (λ h. subst (λ (z : X). Contains (y ∷ filter p ys) z) same (Contains-first y (filter p ys)))
            (λ h. absurd (false≢true (sym h ∙ ap p same ∙ passes)))
        | inr later ↦ elim (p y) as (λ t. Contains (cond t (y ∷ filter p ys) (filter p ys)) x) [
          | true ↦ Contains-later y (filter p ys) x (Contains-filter p ys x later passes)
          | false ↦ Contains-filter p ys x later passes
        ]
      ]

  pub Contains-from_filter : (p : X → Bool) (xs : List X) (x : X) → Contains (filter p xs) x → Contains xs x
  Contains-from_filter p xs x at = All-contains (Contains xs) (filter p xs) x (All-filter p (Contains xs) xs (All-contains_itself xs)) at

  pub passes_from_filter : (p : X → Bool) (xs : List X) (x : X) → Contains (filter p xs) x → p x ≡ true
  passes_from_filter p xs x at = All-contains (λ y. p y ≡ true) (filter p xs) x (filter_passes p xs) at

-- ---- maps

module _ {X Y : Type 0} (f : X → Y) where
  map_same_by : (g : X → Y) (xs : List X) → AllByRecursion (λ x. f x ≡ g x) xs → map f xs ≡ map g xs
  map_same_by g [] h = refl
  map_same_by g (x ∷ xs) h = ap (λ y. y ∷ map f xs) h.0 ∙ ap (λ ys. g x ∷ ys) (map_same_by g xs h.1)

  -- two functions that agree at each element of a list give one list
  pub map_same : (g : X → Y) (xs : List X) → All (λ x. f x ≡ g x) xs → map f xs ≡ map g xs
  map_same g xs h = map_same_by g xs (recursion_from_All (λ x. f x ≡ g x) xs h)

  pub filter-map : (p : Y → Bool) (xs : List X) → filter p (map f xs) ≡ map f (filter (λ x. p (f x)) xs)
  filter-map p [] = refl
  filter-map p (x ∷ xs) =
      elim (p (f x)) as (λ t. cond t (f x ∷ filter p (map f xs)) (filter p (map f xs)) ≡ map f (cond t (x ∷ filter (λ y. p (f y)) xs) (filter (λ y. p (f y)) xs))) [
        | true ↦ ap (λ (ys : List Y). f x ∷ ys) (filter-map p xs)
        | false ↦ filter-map p xs
      ]

  pub Contains-map : (xs : List X) (x : X) → Contains xs x → Contains (map f xs) (f x)
  Contains-map xs x (i, within, at) = (i, omega (arith, length-map xs f), get_or-map f xs i x (f x) within ∙ ap f at)

  pub Contains-from_map : (xs : List X) (y : Y) → Contains (map f xs) y → (x : X) × Contains xs x × (f x ≡ y)
  Contains-from_map xs y at =
      let From : Y → Type 0 = λ z. (x : X) × Contains xs x × (f x ≡ z) in
      All-contains From (map f xs) y (All-map From f xs (λ k d within. (get_or xs k d, Contains-get_or xs k d within, refl))) at

  pub AllPairs-map : (R : Y → Y → Type 0) (none : X) (xs : List X) → AllPairs (λ a b. R (f a) (f b)) xs → AllPairs R (map f xs)
  AllPairs-map R none xs h i j d before inside =
      let later : j < length xs = omega (arith, length-map xs f) in
      let first : i < length xs = omega arith in
      subst (λ y. R y (get_or (map f xs) j d)) (sym (get_or-map f xs i none d first))
      (subst (λ y. R (f (get_or xs i none)) y) (sym (get_or-map f xs j none d later)) (h i j none before later))

pub increasing_from_pairs : (xs : List ℕ) → AllPairs (λ x y. x < y) xs → IsStrictlyIncreasing xs
increasing_from_pairs xs h k within = h k (k + 1) 0 (omega arith) within
