-- A search in ascending numbers finds a number exactly where it is one of them.
use Rattle.std.proofs.Common.{◌≡◌, ℕ, false, ◌==◌, List, get_or, sym, inl, inr, arith}
use Rattle.std.specs.List.{list_any}
use Rattle.std.specs.List.Sorted.{IsNonDecreasing, IsBinarySearchResult}
use Rattle.std.specs.Ordering.{nat_cmp}
use Rattle.std.specs.Prelude.{Result, Ok, Err}
use Rattle.std.specs.Result.{is_ok}
use Rattle.std.proofs.lemmas.Bool.{cases_lt, eq-eqb, ne_eqb}
use Rattle.std.proofs.lemmas.List.Elements.{All-from_get_or}
use Rattle.std.proofs.lemmas.List.Folds.{list_any_at, list_any_none}
use Rattle.std.proofs.lemmas.List.Sorted.{searched}

pub search_finds : (xs : List ℕ) (x : ℕ) (r : Result ℕ ℕ) → IsBinarySearchResult (λ y. nat_cmp y x) xs r → IsNonDecreasing xs → is_ok r ≡ list_any (λ n. n == x) xs
search_finds xs x (Ok i) h up =
    let found = searched xs x (Ok i) h (λ i j. up i j 0) in
    sym (list_any_at (λ n. n == x) xs i 0 found.0 (eq-eqb (get_or xs i 0) x found.1))
search_finds xs x (Err i) h up =
    let missed = searched xs x (Err i) h (λ i j. up i j 0) in
    sym (list_any_none (λ n. n == x) xs
    (All-from_get_or (λ n. (n == x) ≡ false) xs 0
    (λ k lt. ne_eqb (get_or xs k 0) x
    (elim (cases_lt k i) [ inl before ↦ (λ e. omega (arith, missed.1 k before, e)) | inr after ↦ (λ e. omega (arith, missed.2 k after lt, e)) ]))))
