-- Lists, tests and numbers below a bound, of which the proofs on any domain make use.
use Rattle.std.proofs.Common.{◌≡◌, ◌<◌, ◌≤◌, ◌⊎◌, ◌&&◌, ◌||◌, ℕ, zero, suc, Bool, true, false, not, All, List, [], ◌∷◌, ◌++◌, refl, sym, ap, subst, ◌∙◌, inl, inr, arith}
use Rattle.std.specs.List.{list_all, list_any, AllByRecursion}
use Rattle.std.proofs.lemmas.Bool.{false≢true, cases_lt}
use Rattle.cd_base.specs.Lists.{OneOf, Within}
use Rattle.cd_base.proofs.Members.{member_left, member_right, all_of_member, all_from_member}
use Rattle.cd_meaning.specs.Truth.{EveryTwo}

-- ---- double negations

-- where none of finitely many facts can be refuted, and the others hold, all of them together can't be refuted
pub all_unrefuted : (P : ℕ → Type 0) (n : ℕ) → ((k : ℕ) → n ≤ k → P k) → ((k : ℕ) → (P k → ⊥) → ⊥) → (((k : ℕ) → P k) → ⊥) → ⊥
all_unrefuted P zero later given refuted = refuted (λ k. later k (omega arith))
all_unrefuted P (suc n) later given refuted = given n (λ p. all_unrefuted P n (λ k ge. from p k ge (cases_lt n k)) given refuted)
  where
    from : P n → (k : ℕ) → n ≤ k → (n < k) ⊎ (k ≤ n) → P k
    from p k ge (inl lt) = later k (omega arith)
    from p k ge (inr le) = let e : n ≡ k = omega arith in subst P e p

-- ---- numbers below a bound

-- the numbers below n
abbrev pub numbers : ℕ → List ℕ
numbers zero = []
numbers (suc n) = n ∷ numbers n

-- each number below n is one of them
pub below_member : (n k : ℕ) → k < n → OneOf k (numbers n)
below_member zero k lt = absurd (omega arith)
below_member (suc n) k lt = elim (cases_lt k n) [ inl l ↦ inr (below_member n k l) | inr g ↦ (let e : k ≡ n = omega arith in inl e) ]

-- each of them is below n
pub member_below : (n k : ℕ) → OneOf k (numbers n) → k < n
member_below zero k m = absurd m
member_below (suc n) k (inl e) = omega (arith, e)
member_below (suc n) k (inr m) = let l = member_below n k m in omega arith

-- ---- lists

-- what holds by recursion holds of each element
pub in_list : {X : Type 0} (P : X → Type 0) (xs : List X) → AllByRecursion P xs → (x : X) → OneOf x xs → P x
in_list P [] h x m = absurd m
in_list P (y ∷ xs) h x (inl e) = subst P (sym e) h.0
in_list P (y ∷ xs) h x (inr m) = in_list P xs h.1 x m

-- two tests that agree on each element agree on whether all pass
pub all_same : {X : Type 0} (f g : X → Bool) (xs : List X) → ((x : X) → OneOf x xs → f x ≡ g x) → list_all f xs ≡ list_all g xs
all_same f g [] h = refl
all_same f g (x ∷ xs) h =
    ap (λ b. b && list_all f xs) (h x (inl refl)) ∙ ap (λ b. g x && b) (all_same f g xs (λ y m. h y (inr m)))

-- and on whether some passes
pub any_same : {X : Type 0} (f g : X → Bool) (xs : List X) → ((x : X) → OneOf x xs → f x ≡ g x) → list_any f xs ≡ list_any g xs
any_same f g [] h = refl
any_same f g (x ∷ xs) h =
    ap (λ b. b || list_any f xs) (h x (inl refl)) ∙ ap (λ b. g x || b) (any_same f g xs (λ y m. h y (inr m)))

-- a relation holds of every two of a list where it holds of every two elements
pub every_two : {X : Type 0} (R : X → X → Type 0) (l : List X) → ((c d : X) → OneOf c l → OneOf d l → R c d) → EveryTwo R l
every_two R l h = all_from_member (λ c. All (λ d. R c d) l) l (λ c mc. all_from_member (λ d. R c d) l (λ d md. h c d mc md))

-- and the other way: it holds of each two elements where it holds of every two of the list
pub two_of : {X : Type 0} (R : X → X → Type 0) (l : List X) → EveryTwo R l → (c d : X) → OneOf c l → OneOf d l → R c d
two_of R l h c d mc md = all_of_member (λ d. R c d) l (all_of_member (λ c. All (λ d. R c d) l) l h c mc) d md

-- two relations that hold of the same pairs hold alike of every two of a list
pub every_two_alike : {X : Type 0} (R T : X → X → Type 0) → ((c d : X) → (R c d → T c d) × (T c d → R c d)) → (l : List X)
    → (EveryTwo R l → EveryTwo T l) × (EveryTwo T l → EveryTwo R l)
every_two_alike R T h l = (
  λ k. every_two T l (λ c d mc md. (h c d).0 (two_of R l k c d mc md)),
  λ k. every_two R l (λ c d mc md. (h c d).1 (two_of T l k c d mc md)),
)

-- what has both lists has each
pub left_within : {X : Type 0} (xs ys zs : List X) → Within (xs ++ ys) zs → Within xs zs
left_within xs ys zs h x m = h x (member_left x xs ys m)

-- the same of the second
pub right_within : {X : Type 0} (xs ys zs : List X) → Within (xs ++ ys) zs → Within ys zs
right_within xs ys zs h x m = h x (member_right x xs ys m)

-- ---- tests

-- a test that says that the first of two implies the second
pub keeps_or : (a b : Bool) → (a ≡ true → b ≡ true) → (not a || b) ≡ true
keeps_or true b h = h refl
keeps_or false b h = refl

-- what such a test says
pub or_keeps : (a b : Bool) → (not a || b) ≡ true → a ≡ true → b ≡ true
or_keeps true b h e = h
or_keeps false b h e = absurd (false≢true e)

-- what is not true is false
pub is_false : (b : Bool) → (b ≡ true → ⊥) → b ≡ false
is_false true h = absurd (h refl)
is_false false h = refl
