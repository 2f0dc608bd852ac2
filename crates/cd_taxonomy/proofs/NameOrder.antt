-- The classes in the order of their names: each number once, rising by the names.
use Rattle.std.proofs.Common.{◌≡◌, ◌≢◌, ℕ, ◌+◌, ◌<◌, true, false, cond, eqb, List, [], ◌∷◌, length, get_or, refl, sym, ap, subst, ◌∙◌, arith}
use Rattle.std.specs.List.{All, AllPairs, AllByRecursion, Contains, IsDistinct, range_with_len}
use Rattle.std.specs.List.Sorted.{IsPermutation, IsSortedBy, IsStrictlySortedBy}
use Rattle.std.specs.Cmp.{IsTotalOrder, IsStrictWeakOrder}
use Rattle.std.specs.Cmp.Lexicographic.{slice_cmp}
use Rattle.std.specs.Ordering.{nat_cmp, is_lt, is_eq, eq_by_cmp, ordering_reverse}
use Rattle.std.specs.declared.cmp.Ordering.{Ordering}
use Rattle.std.specs.declared.cmp.Ordering.TheVariants.{Less, Equal, Greater}
use Rattle.std.proofs.lemmas.Bool.{false≢true, false_from_ne_true, cond_both}
use Rattle.std.proofs.lemmas.Bool.Decides.{Decides-eqb}
use Rattle.std.proofs.lemmas.Cmp.{on_total, nat_list_cmp_total, eq_by_cmp_equiv, nat_eq_equiv}
use Rattle.std.proofs.lemmas.List.Elements.{All-from_recursion, recursion_from_All}
use Rattle.std.proofs.lemmas.List.FromFn.{length-range_with_len}
use Rattle.std.proofs.lemmas.List.Sorted.{IsPermutation-refl, IsPermutation-cons, IsPermutation-middle, IsPermutation-trans, IsPermutation-sym, Contains-permutation, All-permutation, length_permutation, ranks_by}
use Rattle.std.proofs.lemmas.Map.Keys.{IsDistinct-head, IsDistinct-tail, IsDistinct-from_apart, IsDistinct-IsPermutation, apart_from_distinct, sorted_from_all_adjacent}
use Rattle.std.proofs.lemmas.Map.Lookups.{exact_bytes}
use Rattle.std.proofs.lemmas.Map.Made.{AllPairs-from_IsDistinct}
use Rattle.std.proofs.lemmas.Map.Views.{tells_apart}
use Rattle.cd_meaning.specs.Hierarchy.{name_of, is_before, put_in_order, in_order, classes_in_order}
use Rattle.cd_taxonomy.specs.Steps.{IsOrdering}
use Rattle.cd_taxonomy.proofs.Ranges.{number_at, range_contains, range_within, range_distinct}
use Rattle.cd_taxonomy.proofs.RisingLists.{same_from_sorted}

abbrev pub by_name : List (List ℕ) → ℕ → ℕ → Ordering
by_name names c d = slice_cmp nat_cmp (name_of names c) (name_of names d)

pub by_name_total : (names : List (List ℕ)) → IsTotalOrder (by_name names)
by_name_total names = on_total (name_of names) nat_list_cmp_total

-- that one name stands before another is the test of an order, as a sort asks
pub is_before_order : (names : List (List ℕ)) → IsStrictWeakOrder (is_before names)
is_before_order names = ranks_by nat_list_cmp_total (name_of names)

-- ---- a permutation of the numbers

module _ (names : List (List ℕ)) where
  put_permutes : (c : ℕ) (ds : List ℕ) → IsPermutation (c ∷ ds) (put_in_order names c ds)
  put_permutes c [] = IsPermutation-refl (c ∷ [])
  put_permutes c (d ∷ more) =
      elim (is_before names c d) as (λ t. IsPermutation (c ∷ d ∷ more) (cond t (c ∷ d ∷ more) (d ∷ put_in_order names c more))) [
        | true ↦ IsPermutation-refl (c ∷ d ∷ more)
        | false ↦ IsPermutation-trans (c ∷ d ∷ more) (d ∷ c ∷ more) (d ∷ put_in_order names c more)
            (IsPermutation-middle (c ∷ []) d more) (IsPermutation-cons d (c ∷ more) (put_in_order names c more) (put_permutes c more))
      ]

  in_order_permutes : (cs : List ℕ) → IsPermutation cs (in_order names cs)
  in_order_permutes [] = IsPermutation-refl []
  in_order_permutes (c ∷ more) =
      IsPermutation-trans (c ∷ more) (c ∷ in_order names more) (put_in_order names c (in_order names more))
      (IsPermutation-cons c more (in_order names more) (in_order_permutes more)) (put_permutes c (in_order names more))

  pub classes_permute : IsPermutation (range_with_len 0 (length names)) (classes_in_order names)
  classes_permute = in_order_permutes (range_with_len 0 (length names))

  pub length-classes_in_order : length (classes_in_order names) ≡ length names
  length-classes_in_order = length_permutation (range_with_len 0 (length names)) (classes_in_order names) classes_permute ∙ length-range_with_len 0 (length names)

module _ (names : List (List ℕ)) where
  classes_distinct : IsDistinct eqb (classes_in_order names)
  classes_distinct = IsDistinct-IsPermutation eqb nat_eq_equiv.symm (range_with_len 0 (length names)) (classes_in_order names)
      (classes_permute names) (range_distinct (length names))

  pub classes_within : All (λ c. c < length names) (classes_in_order names)
  classes_within = All-permutation (λ c. c < length names) (range_with_len 0 (length names)) (classes_in_order names) (classes_permute names) (range_within (length names))

  pub classes_ordering : IsOrdering (classes_in_order names)
  classes_ordering = record {
    within = subst (λ (n : ℕ). All (λ c. c < n) (classes_in_order names)) (sym (length-classes_in_order names)) classes_within;
    distinct = AllPairs-from_IsDistinct Decides-eqb (classes_in_order names) classes_distinct;
  }

  pub classes_contain : (c : ℕ) → c < length names → Contains (classes_in_order names) c
  classes_contain c within = Contains-permutation (range_with_len 0 (length names)) (classes_in_order names) c
      (classes_permute names) (range_contains (length names) c within)

-- ---- rising by the names

rises : (r : Ordering) → is_eq r ≡ false → is_lt (ordering_reverse r) ≡ false → r ≡ Less
rises Less apart not_after = refl
rises Equal apart not_after = absurd (false≢true (sym apart))
rises Greater apart not_after = absurd (false≢true (sym not_after))

is_less : (r : Ordering) → is_lt r ≡ true → r ≡ Less
is_less Less h = refl
is_less Equal h = absurd (false≢true h)
is_less Greater h = absurd (false≢true h)

-- of two that do not tie one is less
less_from_apart : {K : Type 0} {R : K → K → Ordering} (o : IsTotalOrder R) (a b : K) → eq_by_cmp R a b ≡ false → is_lt (R b a) ≡ false → R a b ≡ Less
less_from_apart {R = R} o a b apart not_after = rises (R a b) apart (ap is_lt (sym (o.antisymm b a)) ∙ not_after)

all_weaker : (P Q : ℕ → Type 0) (xs : List ℕ) → ((x : ℕ) → P x → Q x) → AllByRecursion P xs → AllByRecursion Q xs
all_weaker P Q [] f h = tt
all_weaker P Q (x ∷ xs) f h = (f x h.0, all_weaker P Q xs f h.1)

module _ (names : List (List ℕ)) where
  abbrev HasNoRepeats : ℕ → ℕ → Type 0
  HasNoRepeats c d = eq_by_cmp (by_name names) c d ≡ false

  abbrev IsLess : ℕ → ℕ → Type 0
  IsLess c d = by_name names c d ≡ Less

  flips : (c d : ℕ) → eq_by_cmp (by_name names) c d ≡ eq_by_cmp (by_name names) d c
  flips = (eq_by_cmp_equiv (by_name_total names)).symm

  put_keeps : (P : ℕ → Type 0) (c : ℕ) (ds : List ℕ) → P c → AllByRecursion P ds → AllByRecursion P (put_in_order names c ds)
  put_keeps P c ds here all = recursion_from_All P (put_in_order names c ds)
      (All-permutation P (c ∷ ds) (put_in_order names c ds) (put_permutes names c ds) (All-from_recursion P (c ∷ ds) (here, all)))

  put_rises : (c : ℕ) (ds : List ℕ) → AllByRecursion (HasNoRepeats c) ds → IsStrictlySortedBy (by_name names) ds
      → IsStrictlySortedBy (by_name names) (put_in_order names c ds)
  unfolding IsStrictlySortedBy
  put_rises c [] apart up = (tt, tt)
  put_rises c (d ∷ more) apart up =
      cond_both (is_before names c d) (c ∷ d ∷ more) (d ∷ put_in_order names c more) (IsStrictlySortedBy (by_name names))
      (λ before. let less : by_name names c d ≡ Less = is_less (by_name names c d) before in
      ((less, all_weaker (IsLess d) (IsLess c) more (λ e h. (by_name_total names).trans c d e less h) up.0), up))
      (λ not_before. (
        put_keeps (IsLess d) c more (less_from_apart (by_name_total names) d c (flips d c ∙ apart.0) not_before) up.0,
        put_rises c more apart.1 up.1,
      ))

  in_order_rises : (cs : List ℕ) → IsDistinct (eq_by_cmp (by_name names)) cs → IsStrictlySortedBy (by_name names) (in_order names cs)
  unfolding IsStrictlySortedBy
  in_order_rises [] apart = tt
  in_order_rises (c ∷ more) apart =
      let kept : All (HasNoRepeats c) (in_order names more) = All-permutation (HasNoRepeats c) more (in_order names more) (in_order_permutes names more)
      (All-from_recursion (HasNoRepeats c) more (IsDistinct-head (eq_by_cmp (by_name names)) c more apart)) in
      put_rises c (in_order names more) (recursion_from_All (HasNoRepeats c) (in_order names more) kept)
      (in_order_rises more (IsDistinct-tail (eq_by_cmp (by_name names)) c more apart))

module _ (names : List (List ℕ)) (distinct : AllPairs (λ a b. a ≢ b) names) where
  numbers_apart : IsDistinct (eq_by_cmp (by_name names)) (range_with_len 0 (length names))
  numbers_apart = IsDistinct-from_apart (eq_by_cmp (by_name names)) (range_with_len 0 (length names)) (λ i j d before within.
      let n = length names in
      let later : j < n = omega (arith, length-range_with_len 0 n) in
      let first : get_or (range_with_len 0 n) i d ≡ i = number_at n i d (omega arith) in
      let second : get_or (range_with_len 0 n) j d ≡ j = number_at n j d later in
      ap (λ (c : ℕ). eq_by_cmp (by_name names) c (get_or (range_with_len 0 n) j d)) first
      ∙ ap (λ (c : ℕ). eq_by_cmp (by_name names) i c) second
      ∙ false_from_ne_true (eq_by_cmp (by_name names) i j)
      (λ tied. distinct i j [] before later (tells_apart exact_bytes (name_of names i) (name_of names j) tied)))

  pub classes_rise : IsStrictlySortedBy (by_name names) (classes_in_order names)
  classes_rise = in_order_rises names (range_with_len 0 (length names)) numbers_apart

  -- the numbers in another order that has each name not before the one that stands before it
  pub same_from_sort : (order : List ℕ) → IsPermutation (range_with_len 0 (length names)) order → IsSortedBy (is_before names) order
      → order ≡ classes_in_order names
  same_from_sort order permutes sorted =
      let numbers = range_with_len 0 (length names) in
      let apart : IsDistinct (eq_by_cmp (by_name names)) order = IsDistinct-IsPermutation (eq_by_cmp (by_name names)) (flips names) numbers order permutes numbers_apart in
      let up : IsStrictlySortedBy (by_name names) order = sorted_from_all_adjacent (by_name_total names) order 0 (λ k within.
      less_from_apart (by_name_total names) (get_or order k 0) (get_or order (k + 1) 0)
      (apart_from_distinct (eq_by_cmp (by_name names)) order k (k + 1) 0 apart (omega arith) within)
      (sorted k 0 (omega arith) within)) in
      same_from_sorted (by_name_total names) order (classes_in_order names) up classes_rise
      (λ c at. Contains-permutation numbers (classes_in_order names) c (classes_permute names)
      (Contains-permutation order numbers c (IsPermutation-sym numbers order permutes) at))
      (λ c at. Contains-permutation numbers order c permutes
      (Contains-permutation (classes_in_order names) numbers c (IsPermutation-sym numbers (classes_in_order names) (classes_permute names)) at))
