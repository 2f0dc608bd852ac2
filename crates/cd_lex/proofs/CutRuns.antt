-- The longest run of bytes at the front of a text that pass a test.
use Rattle.std.proofs.Common.{◌≡◌, ◌⊎◌, ℕ, Bool, true, false, ◌&&◌, ◌||◌, ◌==◌, List, [], ◌∷◌, ◌++◌, refl, sym, ap, ◌∙◌, inl, inr, cond}
use Rattle.std.specs.List.{list_all}
use Rattle.std.proofs.lemmas.Bool.{false≢true, both_ways, eqb-true}
use Rattle.cd_lex.specs.Tokens.{begins}

abbrev pub front_while : (ℕ → Bool) → List ℕ → List ℕ
front_while test [] = []
front_while test (b ∷ more) = cond (test b) (b ∷ front_while test more) []

abbrev pub rest_while : (ℕ → Bool) → List ℕ → List ℕ
rest_while test [] = []
rest_while test (b ∷ more) = cond (test b) (rest_while test more) (b ∷ more)

-- ---- tests

-- what holds of both answers of a choice, each where it is taken, holds of the choice
pub by_cases : {A : Type 0} (P : A → Type 0) (b : Bool) (x y : A) → (b ≡ true → P x) → (b ≡ false → P y) → P (cond b x y)
by_cases P true x y f g = f refl
by_cases P false x y f g = g refl

pub chosen_true : {A : Type 0} (b : Bool) (x y : A) → b ≡ true → cond b x y ≡ x
chosen_true b x y h = ap (λ (t : Bool). cond t x y) h

pub chosen_false : {A : Type 0} (b : Bool) (x y : A) → b ≡ false → cond b x y ≡ y
chosen_false b x y h = ap (λ (t : Bool). cond t x y) h

pub is_or_not : (b : Bool) → (b ≡ true) ⊎ (b ≡ false)
is_or_not true = inl refl
is_or_not false = inr refl

pub and_cases : (a b : Bool) → (a && b) ≡ true → (a ≡ true) × (b ≡ true)
and_cases true b h = (refl, h)
and_cases false b h = absurd (false≢true h)

pub neither : (a b : Bool) → a ≡ false → b ≡ false → (a || b) ≡ false
neither a b h k = ap (λ (t : Bool). t || b) h ∙ k

-- a byte that passes is not one that fails
pub differs : (test : ℕ → Bool) (b c : ℕ) → test b ≡ true → test c ≡ false → (b == c) ≡ false
differs test b c passes fails = elim (is_or_not (b == c)) [
  | inl same ↦ absurd (both_ways (test c) fails (ap test (sym (eqb-true b c same)) ∙ passes))
  | inr differ ↦ differ
]

-- ---- runs

pub split_while : (test : ℕ → Bool) (bytes : List ℕ) → bytes ≡ front_while test bytes ++ rest_while test bytes
split_while test [] = refl
split_while test (b ∷ more) =
    let P : Bool → Type 0 = λ t. b ∷ more ≡ cond t (b ∷ front_while test more) [] ++ cond t (rest_while test more) (b ∷ more) in
    elim (test b) as P [ true ↦ ap (λ (xs : List ℕ). b ∷ xs) (split_while test more) | false ↦ refl ]

pub all_while : (test : ℕ → Bool) (bytes : List ℕ) → list_all test (front_while test bytes) ≡ true
all_while test [] = refl
all_while test (b ∷ more) =
    by_cases (λ (xs : List ℕ). list_all test xs ≡ true) (test b) (b ∷ front_while test more) []
    (λ e. ap (λ (t : Bool). t && list_all test (front_while test more)) e ∙ all_while test more) (λ e. refl)

pub stops_while : (test : ℕ → Bool) (bytes : List ℕ) → begins test (rest_while test bytes) ≡ false
stops_while test [] = refl
stops_while test (b ∷ more) =
    by_cases (λ (xs : List ℕ). begins test xs ≡ false) (test b) (rest_while test more) (b ∷ more) (λ e. stops_while test more) (λ e. e)

pub while_append : (test : ℕ → Bool) (w rest : List ℕ) → list_all test w ≡ true → begins test rest ≡ false
    → (front_while test (w ++ rest) ≡ w) × (rest_while test (w ++ rest) ≡ rest)
while_append test [] [] all stop = (refl, refl)
while_append test [] (b ∷ rest) all stop = (
  ap (λ (t : Bool). cond t (b ∷ front_while test rest) []) stop,
  ap (λ (t : Bool). cond t (rest_while test rest) (b ∷ rest)) stop,
)
while_append test (b ∷ w) rest all stop =
    let both = and_cases (test b) (list_all test w) all in
    let more = while_append test w rest both.1 stop in (
      ap (λ (t : Bool). cond t (b ∷ front_while test (w ++ rest)) []) both.0 ∙ ap (λ (xs : List ℕ). b ∷ xs) more.0,
      ap (λ (t : Bool). cond t (rest_while test (w ++ rest)) (b ∷ (w ++ rest))) both.0 ∙ more.1,
    )
