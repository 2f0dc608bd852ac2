-- Tests over lists that agree, or are opposite, element by element.
use Rattle.std.proofs.Common.{◌≡◌, Bool, true, false, not, ◌&&◌, ◌||◌, List, [], ◌∷◌, refl, ap, ◌∙◌}
use Rattle.std.specs.List.{AllByRecursion, list_all, list_any}

-- ---- complements of answers

pub or_of_nots : (a b : Bool) → (not a || not b) ≡ not (a && b)
or_of_nots true b = refl
or_of_nots false b = refl

and_of_nots : (a b : Bool) → (not a && not b) ≡ not (a || b)
and_of_nots true b = refl
and_of_nots false b = refl

pub and_not : (a b : Bool) → (a && not b) ≡ not (not a || b)
and_not true b = refl
and_not false b = refl

pub not_not : (b : Bool) → not (not b) ≡ b
not_not true = refl
not_not false = refl

-- ---- of all elements, and of some

module _ {X : Type 0} where
  -- what holds of all holds of each of a list
  pub holds_of_each : (P : X → Type 0) → ((x : X) → P x) → (xs : List X) → AllByRecursion P xs
  holds_of_each P h [] = tt
  holds_of_each P h (x ∷ xs) = (h x, holds_of_each P h xs)

  module _ (f g : X → Bool) where
    -- where two tests agree, all pass both or not
    pub all_agree : (xs : List X) → AllByRecursion (λ x. f x ≡ g x) xs → list_all f xs ≡ list_all g xs
    all_agree [] h = refl
    all_agree (x ∷ xs) h = ap (λ b. b && list_all f xs) h.0 ∙ ap (λ b. g x && b) (all_agree xs h.1)

    -- where two tests agree, one passes both or none does
    pub any_agree : (xs : List X) → AllByRecursion (λ x. f x ≡ g x) xs → list_any f xs ≡ list_any g xs
    any_agree [] h = refl
    any_agree (x ∷ xs) h = ap (λ b. b || list_any f xs) h.0 ∙ ap (λ b. g x || b) (any_agree xs h.1)

    -- where two tests are opposite, one passes the first where not all pass the second
    pub any_opposite : (xs : List X) → AllByRecursion (λ x. f x ≡ not (g x)) xs → list_any f xs ≡ not (list_all g xs)
    any_opposite [] h = refl
    any_opposite (x ∷ xs) h = ap (λ b. b || list_any f xs) h.0 ∙ ap (λ b. not (g x) || b) (any_opposite xs h.1) ∙ or_of_nots (g x) (list_all g xs)

    -- where two tests are opposite, all pass the first where none passes the second
    pub all_opposite : (xs : List X) → AllByRecursion (λ x. f x ≡ not (g x)) xs → list_all f xs ≡ not (list_any g xs)
    all_opposite [] h = refl
    all_opposite (x ∷ xs) h = ap (λ b. b && list_all f xs) h.0 ∙ ap (λ b. not (g x) && b) (all_opposite xs h.1) ∙ and_of_nots (g x) (list_any g xs)
