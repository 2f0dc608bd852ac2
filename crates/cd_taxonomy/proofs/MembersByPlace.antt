-- The members of a group are in order the classes at the places that a sort gives.
use Rattle.std.proofs.Common.{◌≡◌, ◌≢◌, ℕ, ◌<◌, Bool, true, false, not, ◌&&◌, ◌==◌, eqb, List, ◌∷◌, length, map, filter, get_or, slice_index, slice_index_or, refl, sym, ap, subst, ◌∙◌, arith}
use Rattle.std.specs.List.{All, Contains, IsDistinct, range_with_len}
use Rattle.std.specs.List.Sorted.{IsPermutation, IsSorted}
use Rattle.std.specs.Ordering.{nat_cmp}
use Rattle.std.proofs.lemmas.Bool.{eqb-true, eq-eqb, ne_eqb}
use Rattle.std.proofs.lemmas.Cmp.{nat_eq_equiv}
use Rattle.std.proofs.lemmas.List.{get_or-map, get_or_default, length-map}
use Rattle.std.proofs.lemmas.List.Elements.{All-contains, All-filter, All-map, All-weaker}
use Rattle.std.proofs.lemmas.List.FromFn.{fill_by_all}
use Rattle.std.proofs.lemmas.List.Kept.{AllPairs-from_increasing, IsStrictlyIncreasing-filter}
use Rattle.std.proofs.lemmas.List.Sorted.{IsNonDecreasingBy-from_sort, All-permutation, Contains-permutation, IsPermutation-sym}
use Rattle.std.proofs.lemmas.Map.Keys.{IsDistinct-from_apart, IsDistinct-IsPermutation, IsStrictlyIncreasing-from_distinct}
use Rattle.cd_base.specs.declared.answer.Answer.{Answer}
use Rattle.cd_base.specs.declared.answer.Answer.TheVariants.{Unsatisfiable}
use Rattle.cd_meaning.specs.Hierarchy.{classes_in_order, is_equivalent, members}
use Rattle.cd_taxonomy.specs.Relation.{relation, IsSubsumption}
use Rattle.cd_taxonomy.specs.Steps.{superclasses, superclass_counts, IsOrdering, ArePlaces}
use Rattle.cd_taxonomy.proofs.SuperclassCounts.{counted, count_same, below_from_count, length-counts}
use Rattle.cd_taxonomy.proofs.SuperclassLists.{superclasses_within}
use Rattle.cd_taxonomy.proofs.Lists.{same_tests, filter_same, filter_twice, filter-map, Contains-filter, passes_from_filter, Contains-from_filter, Contains-map, Contains-from_map}
use Rattle.cd_taxonomy.proofs.NameOrder.{classes_contain, classes_ordering, length-classes_in_order}
use Rattle.cd_taxonomy.proofs.Ranges.{all_below, range_contains, range_within, range_increasing}
use Rattle.cd_taxonomy.proofs.RisingLists.{same_from_increasing}

-- ---- which classes of a row are in the group of its class

-- c is not r, and has as many superclasses
abbrev pub is_other_member : List ℕ → ℕ → ℕ → Bool
is_other_member counts r c = not (c == r) && slice_index counts c == slice_index counts r

-- in the row of r, where a is that c is above r, a test of the counts is one of the relation
same_member : (a b other same : Bool) → (a ≡ true → same ≡ b) → (a && (other && same)) ≡ ((a && b) && other)
same_member false b other same h = refl
same_member true true true same h = h refl
same_member true false true same h = h refl
same_member true true false same h = refl
same_member true false false same h = refl

module _ (above : List Answer) (counts : List ℕ) (n r : ℕ) (r_in : r < n) (long : length above ≡ n) (subsumption : IsSubsumption n (relation above))
    (is_counted : counts ≡ superclass_counts above) where
  abbrev below : ℕ → ℕ → Bool
  below = relation above

  -- c is not r, and is equivalent to it
  abbrev wanted : ℕ → Bool
  wanted c = is_equivalent below r c && not (c == r)

  same_count : (c : ℕ) → c < n → below r c ≡ true → (slice_index counts c == slice_index counts r) ≡ below c r
  same_count c c_in r_below =
      let of_c = counted above counts n c is_counted long c_in in
      let of_r = counted above counts n r is_counted long r_in in
      same_tests (slice_index counts c == slice_index counts r) (below c r)
      (λ same. below_from_count subsumption r c r_in c_in r_below (sym of_r ∙ sym (eqb-true (slice_index counts c) (slice_index counts r) same) ∙ of_c))
      (λ c_below. eq-eqb (slice_index counts c) (slice_index counts r) (of_c ∙ sym (count_same subsumption r c r_in c_in r_below c_below) ∙ sym of_r))

  row_kept : filter (is_other_member counts r) (superclasses n (slice_index_or above r Unsatisfiable)) ≡ filter wanted (range_with_len 0 n)
  row_kept =
      filter_twice (below r) (is_other_member counts r) (range_with_len 0 n)
      ∙ filter_same (λ c. below r c && is_other_member counts r c) wanted (range_with_len 0 n)
      (all_below (λ c. (below r c && is_other_member counts r c) ≡ wanted c) n
      (λ c c_in. same_member (below r c) (below c r) (not (c == r)) (slice_index counts c == slice_index counts r) (same_count c c_in)))

-- ---- places in a list of all numbers below n

module _ (n : ℕ) (order places : List ℕ) (long : length order ≡ n) (ordering : IsOrdering order) (contains : (c : ℕ) → c < n → Contains order c) (placed : ArePlaces n order places) where
  -- c's place is below n, and c stands there
  pub at_place : (c : ℕ) → c < n → (slice_index places c < n) × (slice_index order (slice_index places c) ≡ c)
  at_place c c_in =
      let found = contains c c_in in
      let stands : slice_index order found.0 ≡ c = get_or_default order found.0 0 c found.1 ∙ found.2 in
      let back : slice_index places c ≡ found.0 = ap (slice_index places) (sym stands) ∙ placed.at found.0 found.1 in
      (omega arith, ap (slice_index order) back ∙ stands)

  apart_at_places : (c d : ℕ) → c < n → d < n → c ≢ d → slice_index places c ≢ slice_index places d
  apart_at_places c d c_in d_in apart same = apart (sym (at_place c c_in).1 ∙ ap (slice_index order) same ∙ (at_place d d_in).1)

  order_is : order ≡ map (slice_index order) (range_with_len 0 n)
  order_is = fill_by_all (slice_index order) order n 0 long (λ k k_in. refl)

  module _ (test : ℕ → Bool) where
    chosen_in : (c : ℕ) → Contains (filter test (range_with_len 0 n)) c → c < n
    chosen_in c at = All-contains (λ d. d < n) (range_with_len 0 n) c (range_within n) (Contains-from_filter test (range_with_len 0 n) c at)

    places_distinct : IsDistinct eqb (map (slice_index places) (filter test (range_with_len 0 n)))
    places_distinct =
        let cs = filter test (range_with_len 0 n) in
        let all : All (λ d. d < n) cs = All-filter test (λ d. d < n) (range_with_len 0 n) (range_within n) in
        IsDistinct-from_apart eqb (map (slice_index places) cs) (λ i j d before within.
        let last : j < length cs = omega (arith, length-map cs (slice_index places)) in
        let first : i < length cs = omega arith in
        let less : slice_index cs i < slice_index cs j
        = AllPairs-from_increasing cs (IsStrictlyIncreasing-filter test (range_with_len 0 n) (range_increasing n)) i j 0 before last in
        ap (λ (k : ℕ). eqb k (get_or (map (slice_index places) cs) j d)) (get_or-map (slice_index places) cs i 0 d first)
        ∙ ap (λ (k : ℕ). eqb (slice_index places (slice_index cs i)) k) (get_or-map (slice_index places) cs j 0 d last)
        ∙ ne_eqb (slice_index places (slice_index cs i)) (slice_index places (slice_index cs j))
        (apart_at_places (slice_index cs i) (slice_index cs j) (all i 0 first) (all j 0 last) (λ same. absurd (omega arith))))

    place_chosen : (k : ℕ) → Contains (map (slice_index places) (filter test (range_with_len 0 n))) k
        → Contains (filter (λ j. test (slice_index order j)) (range_with_len 0 n)) k
    place_chosen k at =
        let found = Contains-from_map (slice_index places) (filter test (range_with_len 0 n)) k at in
        let c_in : found.0 < n = chosen_in found.0 found.1 in
        let here = at_place found.0 c_in in
        let stands : slice_index order k ≡ found.0 = ap (slice_index order) (sym found.2) ∙ here.1 in
        Contains-filter (λ j. test (slice_index order j)) (range_with_len 0 n) k (range_contains n k (omega (arith, here.0, found.2)))
        (ap test stands ∙ passes_from_filter test (range_with_len 0 n) found.0 found.1)

    chosen_placed : (k : ℕ) → Contains (filter (λ j. test (slice_index order j)) (range_with_len 0 n)) k
        → Contains (map (slice_index places) (filter test (range_with_len 0 n))) k
    chosen_placed k at =
        let k_in : k < n = All-contains (λ d. d < n) (range_with_len 0 n) k (range_within n) (Contains-from_filter (λ j. test (slice_index order j)) (range_with_len 0 n) k at) in
        let c_in : slice_index order k < n = omega (arith, ordering.within k 0 (omega arith)) in
        subst (Contains (map (slice_index places) (filter test (range_with_len 0 n)))) (placed.at k (omega arith))
        (Contains-map (slice_index places) (filter test (range_with_len 0 n)) (slice_index order k)
        (Contains-filter test (range_with_len 0 n) (slice_index order k) (range_contains n (slice_index order k) c_in)
        (passes_from_filter (λ j. test (slice_index order j)) (range_with_len 0 n) k at)))

    sorted_places : (sorted : List ℕ) → IsPermutation (map (slice_index places) (filter test (range_with_len 0 n))) sorted → IsSorted nat_cmp sorted
        → sorted ≡ filter (λ k. test (slice_index order k)) (range_with_len 0 n)
    sorted_places sorted permutes up =
        let ks = map (slice_index places) (filter test (range_with_len 0 n)) in
        let distinct : IsDistinct eqb sorted = IsDistinct-IsPermutation eqb nat_eq_equiv.symm ks sorted permutes places_distinct in
        same_from_increasing sorted (filter (λ k. test (slice_index order k)) (range_with_len 0 n))
        (IsStrictlyIncreasing-from_distinct sorted (IsNonDecreasingBy-from_sort (λ x. x) sorted up) distinct)
        (IsStrictlyIncreasing-filter (λ k. test (slice_index order k)) (range_with_len 0 n) (range_increasing n))
        (λ k at. place_chosen k (Contains-permutation sorted ks k (IsPermutation-sym ks sorted permutes) at))
        (λ k at. Contains-permutation ks sorted k permutes (chosen_placed k at))

    -- sorted places of the classes that pass give these classes in the order
    pub in_order_from_places : (sorted : List ℕ) → IsPermutation (map (slice_index places) (filter test (range_with_len 0 n))) sorted → IsSorted nat_cmp sorted
        → map (slice_index order) sorted ≡ filter test order
    in_order_from_places sorted permutes up =
        ap (map (slice_index order)) (sorted_places sorted permutes up)
        ∙ sym (filter-map (slice_index order) test (range_with_len 0 n)) ∙ ap (filter test) (sym order_is)

-- ---- the group

module _ (names : List (List ℕ)) (above : List Answer) (counts order places row : List ℕ) (r : ℕ) (r_in : r < length names) (answered : length above ≡ length names)
    (subsumption : IsSubsumption (length names) (relation above)) (is_counted : counts ≡ superclass_counts above) (ordered : order ≡ classes_in_order names)
    (placed : ArePlaces (length names) order places) (is_row : row ≡ superclasses (length names) (slice_index_or above r Unsatisfiable)) where
  length-order : length order ≡ length names
  length-order = ap length ordered ∙ length-classes_in_order names

  ordering : IsOrdering order
  ordering = subst IsOrdering (sym ordered) (classes_ordering names)

  order_contains : (c : ℕ) → c < length names → Contains order c
  order_contains c c_in = subst (λ (cs : List ℕ). Contains cs c) (sym ordered) (classes_contain names c c_in)

  row_within : All (λ c. c < length names) row
  row_within = subst (All (λ c. c < length names)) (sym is_row)
      (superclasses_within (length names) (slice_index_or above r Unsatisfiable))

  pub row_counted : All (λ c. c < length counts) row
  row_counted = subst (λ (n : ℕ). All (λ c. c < n) row) (sym (length-counts above counts (length names) is_counted answered)) row_within

  pub row_placed : All (λ c. c < length places) row
  row_placed = subst (λ (n : ℕ). All (λ c. c < n) row) (sym placed.long) row_within

  pub sorted_within : (sorted : List ℕ) → IsPermutation (map (slice_index places) (filter (is_other_member counts r) row)) sorted → All (λ k. k < length order) sorted
  sorted_within sorted permutes =
      All-permutation (λ k. k < length order) (map (slice_index places) (filter (is_other_member counts r) row)) sorted permutes
      (All-map (λ k. k < length order) (slice_index places) (filter (is_other_member counts r) row)
      (All-filter (is_other_member counts r) (λ c. slice_index places c < length order) row
      (All-weaker (λ c. c < length names) (λ c. slice_index places c < length order)
      (λ c c_in. omega (arith, length-order, (at_place (length names) order places length-order ordering order_contains placed c c_in).0))
      row row_within)))

  pub members_from_places : (sorted : List ℕ) → IsPermutation (map (slice_index places) (filter (is_other_member counts r) row)) sorted → IsSorted nat_cmp sorted
      → r ∷ map (slice_index order) sorted ≡ members names (relation above) r
  members_from_places sorted permutes up =
      let test : ℕ → Bool = λ c. is_equivalent (relation above) r c && not (c == r) in
      let kept : filter (is_other_member counts r) row ≡ filter test (range_with_len 0 (length names))
      = ap (filter (is_other_member counts r)) is_row ∙ row_kept above counts (length names) r r_in answered subsumption is_counted in
      ap (λ (cs : List ℕ). r ∷ cs)
      (in_order_from_places (length names) order places length-order ordering order_contains placed test sorted
      (subst (λ (cs : List ℕ). IsPermutation (map (slice_index places) cs) sorted) kept permutes) up
      ∙ ap (filter test) ordered ∙ sym (filter_twice (is_equivalent (relation above) r) (λ c. not (c == r)) (classes_in_order names)))
