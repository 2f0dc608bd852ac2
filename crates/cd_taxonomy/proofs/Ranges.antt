-- The numbers below n, ascending.
use Rattle.std.proofs.Common.{◌≡◌, ℕ, ◌+◌, ◌<◌, eqb, get_or, sym, subst, ◌∙◌, arith, zero-add}
use Rattle.std.specs.List.{All, Contains, IsDistinct, range_with_len}
use Rattle.std.specs.List.Sorted.{IsStrictlyIncreasing}
use Rattle.std.proofs.lemmas.Bool.{ne_eqb}
use Rattle.std.proofs.lemmas.List.Elements.{All-from_get_or, All-contains}
use Rattle.std.proofs.lemmas.List.FromFn.{length-range_with_len, get_or-range_with_len}
use Rattle.std.proofs.lemmas.Map.Keys.{IsDistinct-from_apart}

pub number_at : (n i d : ℕ) → i < n → get_or (range_with_len 0 n) i d ≡ i
number_at n i d within = get_or-range_with_len 0 n i d within ∙ zero-add i

pub range_contains : (n c : ℕ) → c < n → Contains (range_with_len 0 n) c
range_contains n c within = (c, omega (arith, length-range_with_len 0 n), number_at n c c within)

pub range_increasing : (n : ℕ) → IsStrictlyIncreasing (range_with_len 0 n)
range_increasing n k within =
    let last : k + 1 < n = omega (arith, length-range_with_len 0 n) in
    omega (arith, number_at n k 0 (omega arith), number_at n (k + 1) 0 last)

pub range_distinct : (n : ℕ) → IsDistinct eqb (range_with_len 0 n)
range_distinct n = IsDistinct-from_apart eqb (range_with_len 0 n) (λ i j d before within.
    let later : j < n = omega (arith, length-range_with_len 0 n) in
    let first : get_or (range_with_len 0 n) i d ≡ i = number_at n i d (omega arith) in
    let second : get_or (range_with_len 0 n) j d ≡ j = number_at n j d later in
    ne_eqb (get_or (range_with_len 0 n) i d) (get_or (range_with_len 0 n) j d) (λ same. absurd (omega arith)))

-- ---- what holds of each number below n

pub all_below : (P : ℕ → Type 0) (n : ℕ) → ((c : ℕ) → c < n → P c) → All P (range_with_len 0 n)
all_below P n each = All-from_get_or P (range_with_len 0 n) 0
    (λ i h. let within : i < n = omega (arith, length-range_with_len 0 n) in subst P (sym (number_at n i 0 within)) (each i within))

pub at_below : (P : ℕ → Type 0) (n c : ℕ) → c < n → All P (range_with_len 0 n) → P c
at_below P n c within all = All-contains P (range_with_len 0 n) c all (range_contains n c within)

pub range_within : (n : ℕ) → All (λ c. c < n) (range_with_len 0 n)
range_within n = all_below (λ c. c < n) n (λ c within. within)
