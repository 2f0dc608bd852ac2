-- The candidates are the groups above a class, and the classes that an answer lists those above its class.
use Rattle.std.proofs.Common.{◌≡◌, ℕ, ◌<◌, ◌≤◌, Bool, true, false, not, ◌==◌, eqb, List, [], ◌∷◌, length, map, filter, get_or, slice_index, slice_index_or, refl, sym, ap, subst, ◌∙◌, arith, inl, inr}
use Rattle.std.specs.List.{All, AllPairs, Contains, IsDistinct, range_with_len}
use Rattle.std.specs.List.Sorted.{IsPermutation, IsSorted}
use Rattle.std.specs.Ordering.{nat_cmp}
use Rattle.std.proofs.lemmas.Bool.{false≢true, and_parts, and_from, both_ways, cases_lt, eqb-true, eqb-false, eq-eqb, ne_eqb, not-true, false_from_ne_true, not_from_false}
use Rattle.std.proofs.lemmas.Bool.Decides.{Decides-eqb}
use Rattle.std.proofs.lemmas.Cmp.{nat_eq_equiv}
use Rattle.std.proofs.lemmas.List.{get_or_past}
use Rattle.std.proofs.lemmas.List.Elements.{All-contains, All-contains_itself, All-filter, All-map}
use Rattle.std.proofs.lemmas.List.Kept.{AllPairs-from_increasing, AllPairs-filter}
use Rattle.std.proofs.lemmas.List.Sorted.{IsPermutation-map, All-permutation, Contains-permutation}
use Rattle.std.proofs.lemmas.Map.Keys.{IsDistinct-IsPermutation}
use Rattle.std.proofs.lemmas.Map.Made.{IsDistinct-from_AllPairs, AllPairs-from_IsDistinct}
use Rattle.cd_base.specs.declared.answer.Answer.{Answer}
use Rattle.cd_base.specs.declared.answer.Answer.TheVariants.{Unsatisfiable, Of}
use Rattle.cd_meaning.specs.Hierarchy.{is_strictly_below, has_between, representative, representatives, is_parent, parents}
use Rattle.cd_taxonomy.specs.declared.parents.Candidate.{Candidate}
use Rattle.cd_taxonomy.specs.Covered.{is_candidate, with_count, class_of, lists, covers, uncovered}
use Rattle.cd_taxonomy.specs.Groups.{group_number}
use Rattle.cd_taxonomy.specs.Relation.{is_superclass, relation, HasClassesBelow, IsSubsumption}
use Rattle.cd_taxonomy.specs.Steps.{superclasses, superclass_counts, representative_list, ArePlaces}
use Rattle.cd_taxonomy.proofs.SuperclassCounts.{count, count_less, count_same, counted, length-counts as length_of_counts}
use Rattle.cd_taxonomy.proofs.SuperclassLists.{superclasses_within, superclasses_increasing, contains_from_test}
use Rattle.cd_taxonomy.proofs.Ranges.{range_contains}
use Rattle.cd_taxonomy.proofs.RepresentativeByCount.{representative_at as representative_in_list, length-representative_list}
use Rattle.cd_taxonomy.proofs.Lists.{Contains-filter, Contains-from_filter, passes_from_filter, AllPairs-map}
use Rattle.cd_taxonomy.proofs.DirectSuperclasses.{IsAbove, IsInOrder, strictly_parts, uncovered_are_parents}
use Rattle.cd_taxonomy.proofs.OneRepresentative.{representative_in, in_representatives}
use Rattle.cd_taxonomy.proofs.ParentNumbers.{numbers_in_order}

-- ---- the classes that an answer lists

-- an answer lists all that are above its class, unless it is unsatisfiable
lists_below : (answer : Answer) (r b : ℕ) → is_superclass answer r ≡ false → lists answer b ≡ is_superclass answer b
lists_below Unsatisfiable r b apart = absurd (false≢true (sym apart))
lists_below (Of atoms) r b apart = refl

below_from_lists : (answer : Answer) (b : ℕ) → lists answer b ≡ true → is_superclass answer b ≡ true
below_from_lists Unsatisfiable b h = refl
below_from_lists (Of atoms) b h = h

lists_from_below : (answer : Answer) (b c : ℕ) → lists answer b ≡ true → is_superclass answer c ≡ true → lists answer c ≡ true
lists_from_below Unsatisfiable b c h k = absurd (false≢true h)
lists_from_below (Of atoms) b c h k = k

lists_within : (n : ℕ) (answer : Answer) (b : ℕ) → HasClassesBelow n answer → lists answer b ≡ true → b < n
lists_within n Unsatisfiable b w h = absurd (false≢true h)
lists_within n (Of atoms) b w h = All-contains (λ c. c < n) atoms b w (contains_from_test atoms b h)

module _ (n : ℕ) (above : List Answer) (long : length above ≡ n) (within : All (HasClassesBelow n) above) (s : IsSubsumption n (relation above)) where
  covers_within : (a b : ℕ) → covers above a b ≡ true → (a < n) × (b < n)
  covers_within a b h =
      let a_in : a < n
      = elim (cases_lt a n) [
        | inl less ↦ less
        | inr past ↦ absurd (both_ways (covers above a b) (ap (λ answer. lists answer b) (get_or_past above a Unsatisfiable (omega arith))) h)
      ] in
      (a_in, lists_within n (slice_index_or above a Unsatisfiable) b (within a Unsatisfiable (omega arith)) h)

  covers_on : (a b c : ℕ) → covers above a b ≡ true → covers above b c ≡ true → covers above a c ≡ true
  covers_on a b c h k =
      let first = covers_within a b h in
      let second = covers_within b c k in
      let up : relation above a c ≡ true
      = s.transitive a b c first.0 first.1 second.1 (below_from_lists (slice_index_or above a Unsatisfiable) b h) (below_from_lists (slice_index_or above b Unsatisfiable) c k) in
      lists_from_below (slice_index_or above a Unsatisfiable) b c h up

-- ---- the candidates

classes_back : (counts cs : List ℕ) → map class_of (map (with_count counts) cs) ≡ cs
classes_back counts [] = refl
classes_back counts (c ∷ cs) = ap (λ ds. c ∷ ds) (classes_back counts cs)

abbrev no_candidate : Candidate
no_candidate = record { class = 0; superclasses = 0 }

-- what is known of a class, of its row of superclasses, and of the counts and representatives of all classes
pub record AreGiven (names : List (List ℕ)) (above : List Answer) (counts representative_of row : List ℕ) (r : ℕ) : Type 0 where
  pub class : r < length names
  pub answered : length above ≡ length names
  pub within : All (HasClassesBelow (length names)) above
  pub subsumption : IsSubsumption (length names) (relation above)
  pub counted : counts ≡ superclass_counts above
  pub represented : representative_of ≡ representative_list names above
  pub is_row : row ≡ superclasses (length names) (slice_index_or above r Unsatisfiable)

-- the candidates of the row, and the same with those first that have most superclasses
pub record AreSorted (counts representative_of row : List ℕ) (r : ℕ) (candidates sorted : List Candidate) : Type 0 where
  pub found : candidates ≡ map (with_count counts) (filter (is_candidate representative_of counts r) row)
  pub same : IsPermutation candidates sorted
  pub falling : AllPairs (λ (c : Candidate) (d : Candidate). d.superclasses ≤ c.superclasses) sorted

module _ {names : List (List ℕ)} {above : List Answer} {counts representative_of row : List ℕ} {r : ℕ} (given : AreGiven names above counts representative_of row r) where
  abbrev n : ℕ
  n = length names

  abbrev below : ℕ → ℕ → Bool
  below = relation above

  count_at : (d : ℕ) → d < n → slice_index counts d ≡ count n below d
  count_at d d_in = counted above counts n d (given.counted) (given.answered) d_in

  representative_at : (d : ℕ) → d < n → slice_index representative_of d ≡ representative names below d
  representative_at d d_in = representative_in_list names above representative_of d (given.represented) d_in

  pub length-counts : length counts ≡ n
  length-counts = length_of_counts above counts n (given.counted) (given.answered)

  pub length-representative_of : length representative_of ≡ n
  length-representative_of = length-representative_list names above representative_of (given.represented)

  pub row_within : All (λ d. d < n) row
  row_within = subst (All (λ d. d < n)) (sym (given.is_row)) (superclasses_within n (slice_index_or above r Unsatisfiable))

  in_row : (d : ℕ) → Contains row d → (d < n) × (below r d ≡ true)
  in_row d at = (
    All-contains (λ c. c < n) row d row_within at,
    passes_from_filter (below r) (range_with_len 0 n) d (subst (λ xs. Contains xs d) (given.is_row) at),
  )

  abbrev candidate_classes : List ℕ
  candidate_classes = filter (is_candidate representative_of counts r) row

  candidate_above : (d : ℕ) → Contains candidate_classes d → IsAbove names below r d
  candidate_above d at =
      let place = in_row d (Contains-from_filter (is_candidate representative_of counts r) row d at) in
      let both = and_parts (slice_index representative_of d == d) (not (slice_index counts d == slice_index counts r))
      (passes_from_filter (is_candidate representative_of counts r) row d at) in
      record {
        within = place.0;
        above = place.1;
        apart = false_from_ne_true (below d r) (λ back.
            eqb-false (slice_index counts d) (slice_index counts r) (not-true (slice_index counts d == slice_index counts r) both.1)
            (count_at d place.0 ∙ sym (count_same (given.subsumption) r d (given.class) place.0 place.1 back) ∙ sym (count_at r (given.class))));
        own = sym (representative_at d place.0) ∙ eqb-true (slice_index representative_of d) d both.0;
      }

  candidate_from_above : (d : ℕ) → IsAbove names below r d → Contains candidate_classes d
  candidate_from_above d is =
      let fewer : count n below d < count n below r = count_less (given.subsumption) r d (given.class) (is.within) (is.above) (is.apart) in
      let passes : is_candidate representative_of counts r d ≡ true
      = and_from (slice_index representative_of d == d) (not (slice_index counts d == slice_index counts r))
      (eq-eqb (slice_index representative_of d) d (representative_at d (is.within) ∙ is.own))
      (not_from_false (slice_index counts d == slice_index counts r)
      (ne_eqb (slice_index counts d) (slice_index counts r) (λ same. absurd (omega (arith, same, count_at d (is.within), count_at r (given.class)))))) in
      let there : Contains row d
      = subst (λ xs. Contains xs d) (sym (given.is_row)) (Contains-filter (below r) (range_with_len 0 n) d (range_contains n d (is.within)) (is.above)) in
      Contains-filter (is_candidate representative_of counts r) row d there passes

  candidates_distinct : IsDistinct eqb candidate_classes
  candidates_distinct =
      let rising : AllPairs (λ c d. c < d) row
      = subst (AllPairs (λ c d. c < d)) (sym (given.is_row)) (AllPairs-from_increasing (superclasses n (slice_index_or above r Unsatisfiable)) (superclasses_increasing n (slice_index_or above r Unsatisfiable))) in
      let kept : AllPairs (λ c d. c < d) candidate_classes = AllPairs-filter (λ c d. c < d) (is_candidate representative_of counts r) row rising in
      IsDistinct-from_AllPairs Decides-eqb candidate_classes (λ i j d before inside same. absurd (omega (arith, same, kept i j d before inside)))

  -- ---- the candidates once sorted

  module _ {candidates sorted : List Candidate} (by_count : AreSorted counts representative_of row r candidates sorted) where
    abbrev pub order : List ℕ
    order = map class_of sorted

    order_permutes : IsPermutation candidate_classes order
    order_permutes = subst (λ xs. IsPermutation xs order) (ap (map class_of) (by_count.found) ∙ classes_back counts candidate_classes) (IsPermutation-map class_of candidates sorted (by_count.same))

    above_in_order : All (IsAbove names below r) order
    above_in_order = All-permutation (IsAbove names below r) candidate_classes order order_permutes
        (λ k d inside. candidate_above (get_or candidate_classes k d) (All-contains_itself candidate_classes k d inside))

    has_own_count : All (λ (c : Candidate). (c.class < n) × (c.superclasses ≡ count n below (c.class))) sorted
    has_own_count =
        let P : Candidate → Type 0 = λ (c : Candidate). (c.class < n) × (c.superclasses ≡ count n below (c.class)) in
        let each : All (λ d. P (with_count counts d)) candidate_classes
        = λ k d inside. let is = candidate_above (get_or candidate_classes k d) (All-contains_itself candidate_classes k d inside) in
        (is.within, count_at (get_or candidate_classes k d) (is.within)) in
        All-permutation P candidates sorted (by_count.same) (subst (All P) (sym (by_count.found)) (All-map P (with_count counts) candidate_classes each))

    falls_by_count : AllPairs (λ (c : Candidate) (d : Candidate). count n below (class_of d) ≤ count n below (class_of c)) sorted
    falls_by_count i j d before inside =
        omega (arith, by_count.falling i j d before inside, (has_own_count i d (omega arith)).1, (has_own_count j d inside).1)

    pub in_order : IsInOrder names below r order
    in_order = record {
      above = above_in_order;
      complete = λ d is. Contains-permutation candidate_classes order d order_permutes (candidate_from_above d is);
      distinct = AllPairs-from_IsDistinct Decides-eqb order (IsDistinct-IsPermutation eqb nat_eq_equiv.symm candidate_classes order order_permutes candidates_distinct);
      falling = AllPairs-map class_of (λ c d. count n below d ≤ count n below c) no_candidate sorted falls_by_count;
    }

    pub candidates_within : All (λ (c : Candidate). c.class < length above) sorted
    candidates_within k c inside = let is = has_own_count k c inside in omega (arith, is.0, given.answered)

    module _ (two : 1 < n) {direct : List ℕ} (are_uncovered : direct ≡ uncovered (covers above) order) where
      direct_are : direct ≡ filter (is_parent names below r) order
      direct_are = are_uncovered ∙ uncovered_are_parents names below (given.subsumption) two r order in_order (covers above)
          (λ c d is. lists_below (slice_index_or above c Unsatisfiable) r d (is.apart))
          (covers_on n above (given.answered) (given.within) (given.subsumption))

      pub direct_within : All (λ d. d < n) direct
      direct_within = subst (All (λ d. d < n)) (sym direct_are) (All-filter (is_parent names below r) (λ d. d < n) order
          (λ k d inside. (above_in_order k d inside).within))

      module _ {numbers : List ℕ} (places : ArePlaces n (representatives names below) numbers) (found : List ℕ)
          (moved : IsPermutation (map (slice_index numbers) direct) found) (up : IsSorted nat_cmp found) where
        pub found_are : found ≡ map (group_number (representatives names below)) (parents names below r)
        found_are = numbers_in_order n (representatives names below) numbers places (is_parent names below r) order
            (λ k d inside. let is = above_in_order k d inside in representative_in names below (get_or order k d) (is.within) (is.own))
            (in_order.distinct)
            (λ d passes at.
            let is = in_representatives names below d at in
            let parts = strictly_parts below r d (and_parts (is_strictly_below below r d) (not (has_between names below r d)) passes).0 in
            in_order.complete d (record { within = is.0; above = parts.0; apart = parts.1; own = is.1 }))
            found (subst (λ xs. IsPermutation (map (slice_index numbers) xs) found) direct_are moved) up
