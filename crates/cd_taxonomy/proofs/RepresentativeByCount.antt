-- The representative of a class, from the numbers of superclasses and the places of the classes.
use Rattle.std.proofs.Common.{◌≡◌, ◌≢◌, ℕ, zero, suc, ◌+◌, ◌<◌, ◌≤◌, Bool, true, false, cond, ◌==◌, List, [], ◌∷◌, ◌++◌, take, length, filter, slice_index, slice_index_or, sym, ap, subst, ◌∙◌, arith, inl, inr, length-take}
use Rattle.std.specs.List.{All, Contains}
use Rattle.std.proofs.lemmas.Bool.{cond-true, cond-false, and_from, and_parts, false_from_ne_true, eq-eqb, ne_eqb}
use Rattle.std.proofs.lemmas.List.{get_or_default, append-nil}
use Rattle.std.proofs.lemmas.List.Elements.{All-cons, All-same, All-contains, All-more, filter_more}
use Rattle.std.proofs.lemmas.List.FromFn.{get_or-map-range_with_len, length-map-range_with_len}
use Rattle.cd_base.specs.declared.answer.Answer.{Answer}
use Rattle.cd_base.specs.declared.answer.Answer.TheVariants.{Unsatisfiable, Of}
use Rattle.cd_meaning.specs.declared.document.Document.{Document}
use Rattle.cd_meaning.specs.Hierarchy.{first_or, is_equivalent, group_of, representative, classes_in_order}
use Rattle.cd_taxonomy.specs.Relation.{relation, is_superclass, IsSubsumption}
use Rattle.cd_taxonomy.specs.Steps.{superclass_counts, representative_list, IsOrdering, ArePlaces}
use Rattle.cd_taxonomy.proofs.SuperclassCounts.{count, count_same, below_from_count, counted}
use Rattle.cd_taxonomy.proofs.SuperclassLists.{contains_from_test, test_from_contains}
use Rattle.cd_taxonomy.proofs.Lists.{Contains-cases}
use Rattle.cd_taxonomy.proofs.NameOrder.{classes_ordering, classes_within, classes_contain, length-classes_in_order}

pub two_classes : (document : Document) → 1 < length document.classes
two_classes document = omega (arith, length-take 2 document.classes, ap length document.reserved)

-- ---- the first that a filter keeps

pub first_kept : (p : ℕ → Bool) (xs : List ℕ) (k c : ℕ) → k < length xs → p (slice_index xs k) ≡ true → ((j : ℕ) → j < k → p (slice_index xs j) ≡ false) → first_or c (filter p xs) ≡ slice_index xs k
first_kept p [] k c lt here before = absurd (omega arith)
first_kept p (x ∷ xs) zero c lt here before = ap (first_or c) (cond-true (p x) (x ∷ filter p xs) (filter p xs) here)
first_kept p (x ∷ xs) (suc k) c lt here before =
    ap (first_or c) (cond-false (p x) (x ∷ filter p xs) (filter p xs) (before 0 (omega arith)))
    ∙ first_kept p xs k c (omega arith) here (λ j less. before (suc j) (omega arith))

-- the one that passes with the least place
pub first_by_place : (p : ℕ → Bool) (n : ℕ) (order places : List ℕ) (c r : ℕ) → length order ≡ n → IsOrdering order → ArePlaces n order places → Contains order r → p r ≡ true
    → ((d : ℕ) → d < n → p d ≡ true → slice_index places r ≤ slice_index places d) → first_or c (filter p order) ≡ r
first_by_place p n order places c r long ordering placed (k, lt, at) passes least =
    let here : slice_index order k ≡ r = get_or_default order k 0 r lt ∙ at in
    let place : slice_index places r ≡ k = ap (λ (d : ℕ). slice_index places d) (sym here) ∙ placed.at k lt in
    first_kept p order k c lt (ap p here ∙ passes)
    (λ j less. false_from_ne_true (p (slice_index order j)) (λ also.
    let there : slice_index places (slice_index order j) ≡ j = placed.at j (omega arith) in
    absurd (omega (arith, least (slice_index order j) (omega (arith, ordering.within j 0 (omega arith))) also))))
    ∙ here

-- ---- the cases of a representative

module _ (names : List (List ℕ)) (below : ℕ → ℕ → Bool) (c : ℕ) where
  nothing_stands : is_equivalent below c 1 ≡ true → representative names below c ≡ 1
  nothing_stands h = cond-true (is_equivalent below c 1) 1 (cond (is_equivalent below c 0) 0 (first_or c (group_of names below c))) h

  thing_stands : is_equivalent below c 1 ≡ false → is_equivalent below c 0 ≡ true → representative names below c ≡ 0
  thing_stands g h = cond-false (is_equivalent below c 1) 1 (cond (is_equivalent below c 0) 0 (first_or c (group_of names below c))) g
      ∙ cond-true (is_equivalent below c 0) 0 (first_or c (group_of names below c)) h

  first_stands : is_equivalent below c 1 ≡ false → is_equivalent below c 0 ≡ false → representative names below c ≡ first_or c (group_of names below c)
  first_stands g h = cond-false (is_equivalent below c 1) 1 (cond (is_equivalent below c 0) 0 (first_or c (group_of names below c))) g
      ∙ cond-false (is_equivalent below c 0) 0 (first_or c (group_of names below c)) h

module _ (names : List (List ℕ)) (above : List Answer) (counts : List ℕ) (two : 1 < length names) (long : length above ≡ length names)
    (s : IsSubsumption (length names) (relation above)) (are_counts : counts ≡ superclass_counts above) (c : ℕ) (c_in : c < length names) where
  at : (a : ℕ) → a < length names → slice_index counts a ≡ count (length names) (relation above) a
  at a a_in = counted above counts (length names) a are_counts long a_in

  -- of two classes with as many superclasses, one below the other, the other is below the one
  back : (a b : ℕ) → a < length names → b < length names → relation above a b ≡ true → slice_index counts a ≡ slice_index counts b → relation above b a ≡ true
  back a b a_in b_in a_below same = below_from_count s a b a_in b_in a_below (omega (arith, at a a_in, at b b_in))

  same_count : (a b : ℕ) → a < length names → b < length names → is_equivalent (relation above) a b ≡ true → slice_index counts a ≡ slice_index counts b
  same_count a b a_in b_in h =
      let both = and_parts (relation above a b) (relation above b a) h in
      omega (arith, at a a_in, at b b_in, count_same s a b a_in b_in both.0 both.1)

  other : (d : ℕ) → d < length names → slice_index counts c ≢ slice_index counts d → is_equivalent (relation above) c d ≡ false
  other d d_in differ = false_from_ne_true (is_equivalent (relation above) c d) (λ h. differ (same_count c d c_in d_in h))

  pub representative_by_nothing : slice_index counts c ≡ slice_index counts 1 → representative names (relation above) c ≡ 1
  representative_by_nothing same = nothing_stands names (relation above) c
      (and_from (relation above c 1) (relation above 1 c) (back 1 c two c_in (s.nothing c c_in) (sym same)) (s.nothing c c_in))

  pub representative_by_thing : slice_index counts c ≢ slice_index counts 1 → slice_index counts c ≡ slice_index counts 0 → representative names (relation above) c ≡ 0
  representative_by_thing differ same = thing_stands names (relation above) c (other 1 two differ)
      (and_from (relation above c 0) (relation above 0 c) (s.thing c c_in) (back c 0 c_in (omega arith) (s.thing c c_in) same))

  module _ (atoms : List ℕ) (is : slice_index_or above c Unsatisfiable ≡ Of atoms) where
    below_listed : (d : ℕ) → Contains atoms d → relation above c d ≡ true
    below_listed d h = ap (λ (answer : Answer). is_superclass answer d) is ∙ test_from_contains atoms d h

    listed_below : (d : ℕ) → relation above c d ≡ true → Contains atoms d
    listed_below d h = contains_from_test atoms d (ap (λ (answer : Answer). is_superclass answer d) (sym is) ∙ h)

  pub representative_by_place : (places : List ℕ) → ArePlaces (length names) (classes_in_order names) places
      → slice_index counts c ≢ slice_index counts 1 → slice_index counts c ≢ slice_index counts 0
      → (atoms : List ℕ) → slice_index_or above c Unsatisfiable ≡ Of atoms → All (λ (atom : ℕ). atom < length names) atoms
      → (r : ℕ) → slice_index counts r ≡ slice_index counts c → Contains (c ∷ atoms) r
      → All (λ (atom : ℕ). slice_index counts atom ≡ slice_index counts c → slice_index places r ≤ slice_index places atom) atoms
      → representative names (relation above) c ≡ r
  representative_by_place places placed no1 no0 atoms is within r same listed first =
      let r_in : r < length names
      = All-contains (λ d. d < length names) (c ∷ atoms) r
      (All-cons (λ d. d < length names) c atoms c_in within) listed in
      let c_below : relation above c r ≡ true
      = elim (Contains-cases c atoms r listed) [
        | inl here ↦ subst (λ (d : ℕ). relation above c d ≡ true) here (s.reflexive c c_in)
        | inr later ↦ below_listed atoms is r later
      ] in
      let least : (d : ℕ) → d < length names → is_equivalent (relation above) c d ≡ true → slice_index places r ≤ slice_index places d
      = λ d d_in h.
      All-contains (λ e. slice_index counts e ≡ slice_index counts c → slice_index places r ≤ slice_index places e) atoms d first
      (listed_below atoms is d (and_parts (relation above c d) (relation above d c) h).0)
      (sym (same_count c d c_in d_in h)) in
      first_stands names (relation above) c (other 1 two no1) (other 0 (omega arith) no0)
      ∙ first_by_place (is_equivalent (relation above) c) (length names) (classes_in_order names) places c r
      (length-classes_in_order names) (classes_ordering names) placed (classes_contain names r r_in)
      (and_from (relation above c r) (relation above r c) c_below (back c r c_in r_in c_below (sym same))) least

-- ---- the least place so far

module _ (counts places : List ℕ) (c : ℕ) (atoms : List ℕ) where
  -- no atom with as many superclasses as c has a place before that of f
  abbrev pub IsFirst : ℕ → List ℕ → Type 0
  IsFirst f = All (λ (atom : ℕ). slice_index counts atom ≡ slice_index counts c → slice_index places f ≤ slice_index places atom)

  pub first_more : (i f g a d : ℕ) → i < length atoms → a ≡ slice_index_or atoms i d → IsFirst f (take i atoms) → slice_index places g ≤ slice_index places f
      → (slice_index counts a ≡ slice_index counts c → slice_index places g ≤ slice_index places a) → IsFirst g (take (i + 1) atoms)
  first_more i f g a d lt is before less here =
      All-more (λ (atom : ℕ). slice_index counts atom ≡ slice_index counts c → slice_index places g ≤ slice_index places atom) atoms i d lt
      (λ k e short same. omega (arith, before k e short same))
      (subst (λ (b : ℕ). slice_index counts b ≡ slice_index counts c → slice_index places g ≤ slice_index places b) is here)

  pub listed_at : (i a d : ℕ) → i < length atoms → a ≡ slice_index_or atoms i d → Contains (c ∷ atoms) a
  listed_at i a d lt is = (suc i, omega arith, get_or_default atoms i a d lt ∙ sym is)

-- ---- those that are their own representatives

pub representative_at : (names : List (List ℕ)) (above : List Answer) (of : List ℕ) (d : ℕ) → of ≡ representative_list names above → d < length names
    → slice_index of d ≡ representative names (relation above) d
representative_at names above of d is d_in =
    ap (λ (xs : List ℕ). slice_index xs d) is ∙ get_or-map-range_with_len (representative names (relation above)) 0 (length names) d d 0 d_in (omega arith)

pub length-representative_list : (names : List (List ℕ)) (above : List Answer) (of : List ℕ) → of ≡ representative_list names above → length of ≡ length names
length-representative_list names above of is = ap length is ∙ length-map-range_with_len (representative names (relation above)) 0 (length names)

module _ (names : List (List ℕ)) (above : List Answer) (order of : List ℕ) (ordered : order ≡ classes_in_order names) (is : of ≡ representative_list names above) where
  pub order_within : (i : ℕ) → i < length order → slice_index order i < length names
  order_within i lt = All-same (λ d. d < length names) order (classes_in_order names) ordered (classes_within names) i 0 lt

  pub representatives_within : (i : ℕ) → i < length order → slice_index order i < length of
  representatives_within i lt = omega (arith, order_within i lt, length-representative_list names above of is)

  stands_at : (i : ℕ) → i < length order → slice_index of (slice_index order i) ≡ representative names (relation above) (slice_index order i)
  stands_at i lt = representative_at names above of (slice_index order i) is (order_within i lt)

  -- one more class, which stands for its group or does not
  module _ (found : List ℕ) (i : ℕ) (lt : i < length order) (before : found ≡ filter (λ c. representative names (relation above) c == c) (take i order)) where
    abbrev stands : ℕ → Bool
    stands c = representative names (relation above) c == c

    pub representatives_more : slice_index of (slice_index order i) ≡ slice_index order i → found ++ slice_index order i ∷ [] ≡ filter (λ c. representative names (relation above) c == c) (take (i + 1) order)
    representatives_more here =
        let d = slice_index order i in
        let passes : stands d ≡ true = eq-eqb (representative names (relation above) d) d (sym (stands_at i lt) ∙ here) in
        ap (λ (xs : List ℕ). xs ++ d ∷ []) before
        ∙ ap (λ (xs : List ℕ). filter stands (take i order) ++ xs) (sym (cond-true (stands d) (d ∷ []) [] passes))
        ∙ sym (filter_more stands order i 0 lt)

    pub representatives_same : slice_index of (slice_index order i) ≢ slice_index order i → found ≡ filter (λ c. representative names (relation above) c == c) (take (i + 1) order)
    representatives_same other_stands =
        let d = slice_index order i in
        let fails : stands d ≡ false = ne_eqb (representative names (relation above) d) d (λ e. other_stands (stands_at i lt ∙ e)) in
        before ∙ sym (append-nil (filter stands (take i order)))
        ∙ ap (λ (xs : List ℕ). filter stands (take i order) ++ xs) (sym (cond-false (stands d) (d ∷ []) [] fails))
        ∙ sym (filter_more stands order i 0 lt)
