-- The numbers of the direct superclasses, once sorted, stand in the order of the representatives.
use Rattle.std.proofs.Common.{◌≡◌, ◌≢◌, ℕ, ◌<◌, Bool, true, eqb, List, length, map, filter, get_or, slice_index, refl, sym, ap, subst, ◌∙◌, arith}
use Rattle.std.specs.List.{All, AllPairs, Contains, IsDistinct}
use Rattle.std.specs.List.Sorted.{IsPermutation, IsSorted, IsStrictlyIncreasing}
use Rattle.std.specs.Ordering.{nat_cmp}
use Rattle.std.proofs.lemmas.Bool.{eq-eqb, ne_eqb}
use Rattle.std.proofs.lemmas.Bool.Decides.{Decides-eqb}
use Rattle.std.proofs.lemmas.Cmp.{nat_eq_equiv}
use Rattle.std.proofs.lemmas.List.{get_or_default}
use Rattle.std.proofs.lemmas.List.Elements.{All-contains, All-filter}
use Rattle.std.proofs.lemmas.List.Kept.{AllPairs-filter}
use Rattle.std.proofs.lemmas.List.Sorted.{IsNonDecreasingBy-from_sort, IsPermutation-sym, Contains-permutation}
use Rattle.std.proofs.lemmas.List.Sums.{position_or_len_is}
use Rattle.std.proofs.lemmas.Map.Keys.{IsDistinct-IsPermutation, IsStrictlyIncreasing-from_distinct}
use Rattle.std.proofs.lemmas.Map.Made.{IsDistinct-from_AllPairs}
use Rattle.cd_taxonomy.specs.Groups.{group_number}
use Rattle.cd_taxonomy.specs.Steps.{ArePlaces}
use Rattle.cd_taxonomy.proofs.RisingLists.{same_from_increasing}
use Rattle.cd_taxonomy.proofs.Lists.{map_same, Contains-filter, Contains-from_filter, passes_from_filter, Contains-map, Contains-from_map, AllPairs-map, increasing_from_pairs}

module _ (n : ℕ) (rs numbers : List ℕ) (places : ArePlaces n rs numbers) where
  -- the number at a representative's place
  number_at : (k d : ℕ) → k < length rs → slice_index numbers (get_or rs k d) ≡ k
  number_at k d within = ap (slice_index numbers) (get_or_default rs k d 0 within) ∙ places.at k within

  rising : AllPairs (λ c d. slice_index numbers c < slice_index numbers d) rs
  rising i j d before within =
      let first : slice_index numbers (get_or rs i d) ≡ i = number_at i d (omega arith) in
      let second : slice_index numbers (get_or rs j d) ≡ j = number_at j d within in
      omega arith

  numbers_are : All (λ d. group_number rs d ≡ slice_index numbers d) rs
  numbers_are k d within =
      let c = get_or rs k d in
      position_or_len_is (λ t. eqb t c) rs k d (omega arith)
      (λ j before. ne_eqb (get_or rs j d) c (λ same.
      let first : slice_index numbers (get_or rs j d) ≡ j = number_at j d (omega arith) in
      let second : slice_index numbers c ≡ k = number_at k d within in
      absurd (omega (arith, ap (slice_index numbers) same))))
      (λ _. eq-eqb c c refl)
      ∙ sym (number_at k d within)

  apart : (c d : ℕ) → Contains rs c → Contains rs d → c ≢ d → slice_index numbers c ≢ slice_index numbers d
  apart c d (i, i_in, i_at) (j, j_in, j_at) differ same =
      let place : (k e : ℕ) → k < length rs → get_or rs k e ≡ e → slice_index numbers e ≡ k
      = λ (k e : ℕ) (h : k < length rs) (at : get_or rs k e ≡ e). ap (slice_index numbers) (sym at) ∙ number_at k e h in
      let equal : i ≡ j = sym (place i c i_in i_at) ∙ same ∙ place j d j_in j_at in
      differ (sym i_at ∙ get_or_default rs i c d i_in ∙ ap (λ k. get_or rs k d) equal ∙ j_at)

  -- p keeps of the list order the representatives that it keeps of all
  module _ (p : ℕ → Bool) (order : List ℕ) (among : All (Contains rs) order) (distinct : AllPairs (λ c d. c ≢ d) order)
      (complete : (d : ℕ) → p d ≡ true → Contains rs d → Contains order d) where
    abbrev kept : List ℕ
    kept = filter p order

    kept_apart : AllPairs (λ c d. slice_index numbers c ≢ slice_index numbers d) kept
    kept_apart i j d before within =
        let all : All (Contains rs) kept = All-filter p (Contains rs) order among in
        apart (get_or kept i d) (get_or kept j d) (all i d (omega arith)) (all j d within) (AllPairs-filter (λ a b. a ≢ b) p order distinct i j d before within)

    pub numbers_in_order : (found : List ℕ) → IsPermutation (map (slice_index numbers) kept) found → IsSorted nat_cmp found
        → found ≡ map (group_number rs) (filter p rs)
    numbers_in_order found permutes sorted =
        let f = slice_index numbers in
        let right : map (group_number rs) (filter p rs) ≡ map f (filter p rs)
        = map_same (group_number rs) f (filter p rs) (All-filter p (λ d. group_number rs d ≡ f d) rs numbers_are) in
        let up : IsStrictlyIncreasing (map f (filter p rs))
        = increasing_from_pairs (map f (filter p rs)) (AllPairs-map f (λ a b. a < b) 0 (filter p rs) (AllPairs-filter (λ a b. f a < f b) p rs rising)) in
        let once : IsDistinct eqb (map f kept)
        = IsDistinct-from_AllPairs Decides-eqb (map f kept) (AllPairs-map f (λ a b. a ≢ b) 0 kept kept_apart) in
        let found_up : IsStrictlyIncreasing found
        = IsStrictlyIncreasing-from_distinct found (IsNonDecreasingBy-from_sort (λ x. x) found sorted)
        (IsDistinct-IsPermutation eqb nat_eq_equiv.symm (map f kept) found permutes once) in
        same_from_increasing found (map f (filter p rs)) found_up up
        (λ x at.
        let from = Contains-from_map f kept x (Contains-permutation found (map f kept) x (IsPermutation-sym (map f kept) found permutes) at) in
        let d = from.0 in
        let in_order = Contains-from_filter p order d from.1 in
        let there : Contains (filter p rs) d
        = Contains-filter p rs d (All-contains (Contains rs) order d among in_order) (passes_from_filter p order d from.1) in
        subst (Contains (map f (filter p rs))) from.2 (Contains-map f (filter p rs) d there))
        (λ x at.
        let from = Contains-from_map f (filter p rs) x at in
        let d = from.0 in
        let passes = passes_from_filter p rs d from.1 in
        let there : Contains kept d = Contains-filter p order d (complete d passes (Contains-from_filter p rs d from.1)) passes in
        subst (Contains found) from.2 (Contains-permutation (map f kept) found (f d) permutes (Contains-map f kept d there)))
        ∙ sym right
