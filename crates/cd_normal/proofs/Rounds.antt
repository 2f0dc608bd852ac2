-- A circle, link by link.
use Rattle.std.proofs.Common.{◌≡◌, ℕ, zero, suc, ◌+◌, ◌<◌, ◌≤◌, List, [], ◌∷◌, ◌++◌, length, get_or, take, refl, sym, ap, subst, ◌∙◌, inl, inr, arith}
use Rattle.std.proofs.lemmas.Bool.{cases_lt}
use Rattle.std.proofs.lemmas.List.{take_more, take_all}
use Rattle.cd_meaning.specs.NormalAxioms.{NormalAxiom}
use Rattle.cd_normal.specs.declared.maker.Maker.{Maker}
use Rattle.cd_normal.specs.Made.{Adds}
use Rattle.cd_normal.specs.NormalForm.{circle_from, circle}
use Rattle.cd_normal.proofs.Making.{get_left, get_end, adds_then}

module _ {A : Type 0} (link : ℕ → ℕ → A) where
  circle_from_length : (x : ℕ) (xs ys : List ℕ) (start : ℕ) → length xs ≡ length ys → length (circle_from link x xs ys start) ≡ length xs + 1
  circle_from_length x [] ys start same = refl
  circle_from_length x (z ∷ xs) [] start same = absurd (omega (arith, same))
  circle_from_length x (z ∷ xs) (y ∷ ys) start same = let l = circle_from_length z xs ys start (omega (arith, same)) in omega (arith, l)

  pub circle_length : (xs ys : List ℕ) → length xs ≡ length ys → length (circle link xs ys) ≡ length xs
  circle_length [] ys same = refl
  circle_length (x ∷ xs) [] same = absurd (omega (arith, same))
  circle_length (x ∷ xs) (y ∷ ys) same = let l = circle_from_length x xs ys y (omega (arith, same)) in omega (arith, l)

  circle_from_at : (x : ℕ) (xs ys : List ℕ) (start i : ℕ) (d : A) → length xs ≡ length ys → i ≤ length xs → get_or (circle_from link x xs ys start) i d ≡ link (get_or (x ∷ xs) i 0) (get_or (ys ++ start ∷ []) i 0)
  circle_from_at x [] [] start zero d same within = refl
  circle_from_at x [] [] start (suc i) d same within = absurd (omega (arith, within))
  circle_from_at x [] (y ∷ ys) start i d same within = absurd (omega (arith, same))
  circle_from_at x (z ∷ xs) [] start i d same within = absurd (omega (arith, same))
  circle_from_at x (z ∷ xs) (y ∷ ys) start zero d same within = refl
  circle_from_at x (z ∷ xs) (y ∷ ys) start (suc i) d same within = circle_from_at z xs ys start i d (omega (arith, same)) (omega (arith, within))

  -- what stands after the place i, around the list
  turned : (y : ℕ) (ys : List ℕ) (i j : ℕ) → i < length ys + 1 → (i < length ys → j ≡ i + 1) → (i ≡ length ys → j ≡ 0) → get_or (ys ++ y ∷ []) i 0 ≡ get_or (y ∷ ys) j 0
  turned y ys i j within inner last = elim (cases_lt i (length ys)) [
    | inl lt ↦ (let more : i + 1 ≡ suc i = omega arith in get_left ys (y ∷ []) i 0 lt ∙ sym (ap (λ n. get_or (y ∷ ys) n 0) (inner lt ∙ more)))
    | inr ge ↦ (let is : i ≡ length ys = omega (arith, within, ge) in ap (λ n. get_or (ys ++ y ∷ []) n 0) is ∙ get_end ys y 0 ∙ sym (ap (λ n. get_or (y ∷ ys) n 0) (last is)))
  ]

  circle_at : (xs ys : List ℕ) (i j : ℕ) (d : A) → length xs ≡ length ys → i < length xs → (i + 1 < length ys → j ≡ i + 1) → (i + 1 ≡ length ys → j ≡ 0) → get_or (circle link xs ys) i d ≡ link (get_or xs i 0) (get_or ys j 0)
  circle_at [] ys i j d same within inner last = absurd (omega (arith, within))
  circle_at (x ∷ xs) [] i j d same within inner last = absurd (omega (arith, same))
  circle_at (x ∷ xs) (y ∷ ys) i j d same within inner last =
      circle_from_at x xs ys y i d (omega (arith, same)) (omega (arith, within))
      ∙ ap (link (get_or (x ∷ xs) i 0)) (turned y ys i j (omega (arith, within, same)) (λ lt. inner (omega (arith, lt))) (λ is. last (omega (arith, is))))

  pub circle_more : (xs ys : List ℕ) (i j x y : ℕ) → length xs ≡ length ys → i < length xs → (i + 1 < length ys → j ≡ i + 1) → (i + 1 ≡ length ys → j ≡ 0) → x ≡ get_or xs i 0 → y ≡ get_or ys j 0
      → take (i + 1) (circle link xs ys) ≡ take i (circle link xs ys) ++ link x y ∷ []
  circle_more xs ys i j x y same within inner last is_x is_y =
      let l = circle_length xs ys same in
      take_more (circle link xs ys) i (link x y) (omega (arith, l, within))
      ∙ ap (λ a. take i (circle link xs ys) ++ a ∷ []) (circle_at xs ys i j (link x y) same within inner last ∙ ap (λ n. link n (get_or ys j 0)) (sym is_x) ∙ ap (link x) (sym is_y))

module _ (old mid new : Maker) (link : ℕ → ℕ → NormalAxiom) (xs ys : List ℕ) (same : length xs ≡ length ys) where
  pub round_more : (i j x y : ℕ) → i < length xs → (i + 1 < length ys → j ≡ i + 1) → (i + 1 ≡ length ys → j ≡ 0) → x ≡ get_or xs i 0 → y ≡ get_or ys j 0
      → Adds old mid (take i (circle link xs ys)) → Adds mid new (link x y ∷ []) → Adds old new (take (i + 1) (circle link xs ys))
  round_more i j x y within inner last is_x is_y f g =
      subst (Adds old new) (sym (circle_more link xs ys i j x y same within inner last is_x is_y)) (adds_then old mid new (take i (circle link xs ys)) (link x y ∷ []) f g)

pub round_all : (old new : Maker) (link : ℕ → ℕ → NormalAxiom) (xs ys : List ℕ) → length xs ≡ length ys → Adds old new (take (length xs) (circle link xs ys)) → Adds old new (circle link xs ys)
round_all old new link xs ys same f = let l = circle_length link xs ys same in subst (Adds old new) (take_all (length xs) (circle link xs ys) (omega (arith, l))) f
