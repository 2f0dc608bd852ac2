-- The counts of the groups of a relation are those of the relation.
use Rattle.std.proofs.Common.{◌≡◌, ◌≢◌, ℕ, suc, ◌+◌, ◌-◌, ◌<◌, ◌^◌, Bool, true, false, not, ◌&&◌, ◌==◌, cond, List, [], ◌∷◌, length, filter, get_or, refl, sym, ap, subst, ◌∙◌, inl, inr, arith}
use Rattle.std.specs.List.{All, AllByRecursion, AllPairs, Contains, sum_by, count_by}
use Rattle.std.proofs.lemmas.Bool.{and_parts, and_from, eqb-true, eq-eqb, ne_eqb}
use Rattle.std.proofs.lemmas.List.{length-map, length-take}
use Rattle.std.proofs.lemmas.List.Elements.{recursion_from_All, All-contains_itself, All-weaker, All-map, filter_agree}
use Rattle.std.proofs.lemmas.List.Filters.{length-filter_both}
use Rattle.std.proofs.lemmas.List.Folds.{fold-map}
use Rattle.std.proofs.lemmas.List.Kept.{AllPairs-filter}
use Rattle.std.proofs.lemmas.List.Sums.{sum_by-cons, length-filter, count_by-le-length}
use Rattle.cd_meaning.specs.declared.document.Document.{Document}
use Rattle.cd_meaning.specs.Hierarchy.{classes_in_order, is_equivalent, group_of, representative, representatives, members, is_parent, parents, proper, first_or}
use Rattle.cd_taxonomy.specs.declared.groups.Group.{Group}
use Rattle.cd_taxonomy.specs.declared.groups.Summary.{Summary}
use Rattle.cd_taxonomy.specs.Groups.{group_number, group_at, groups}
use Rattle.cd_taxonomy.specs.Lines.{is_proper}
use Rattle.cd_taxonomy.specs.Relation.{IsSubsumption}
use Rattle.cd_taxonomy.specs.Summary.{IsTaxonomyOf, AreFew, name_count, group_count, unsatisfiable_count, link_count, summary_of, member_total, unsatisfiable_in, unsatisfiable_total, link_total}
use Rattle.cd_taxonomy.proofs.Lists.{same_tests, filter_twice, filter-map, Contains-nil, Contains-cases}
use Rattle.cd_taxonomy.proofs.NameOrder.{length-classes_in_order, classes_within, classes_ordering}
use Rattle.cd_taxonomy.proofs.OneRepresentative.{in_representatives, representative_in, group_has, representative_same}
use Rattle.cd_taxonomy.proofs.ReadBackGroups.{stands, represented}

-- ---- sums over lists

module _ {X : Type 0} where
  sum_same_by : (f g : X → ℕ) (xs : List X) → AllByRecursion (λ x. f x ≡ g x) xs → sum_by f xs ≡ sum_by g xs
  sum_same_by f g [] h = refl
  sum_same_by f g (x ∷ xs) h = omega (arith, sum_by-cons f x xs, sum_by-cons g x xs, h.0, sum_same_by f g xs h.1)

  sum_same : (f g : X → ℕ) (xs : List X) → All (λ x. f x ≡ g x) xs → sum_by f xs ≡ sum_by g xs
  sum_same f g xs h = sum_same_by f g xs (recursion_from_All (λ x. f x ≡ g x) xs h)

  sum_zero : (f : X → ℕ) (xs : List X) → All (λ x. f x ≡ 0) xs → sum_by f xs ≡ 0
  sum_zero f [] h = refl
  sum_zero f (x ∷ xs) h = omega (arith, sum_by-cons f x xs, h 0 x (omega arith), sum_zero f xs (λ k d within. h (suc k) d (omega arith)))

  sum_plus : (f g : X → ℕ) (xs : List X) → sum_by (λ x. f x + g x) xs ≡ sum_by f xs + sum_by g xs
  sum_plus f g [] = refl
  sum_plus f g (x ∷ xs) = omega (arith, sum_by-cons f x xs, sum_by-cons g x xs, sum_by-cons (λ x. f x + g x) x xs, sum_plus f g xs)

  sum_ones : (xs : List X) → sum_by (λ _. 1) xs ≡ length xs
  sum_ones [] = refl
  sum_ones (x ∷ xs) = omega (arith, sum_by-cons (λ (_ : X). 1) x xs, sum_ones xs)

abbrev one_if : Bool → ℕ
one_if t = cond t 1 0

-- pairs may be counted by either of the two
count_across : (p : ℕ → ℕ → Bool) (rs cs : List ℕ) → sum_by (λ r. count_by (p r) cs) rs ≡ sum_by (λ c. count_by (λ r. p r c) rs) cs
count_across p [] cs = sym (sum_zero (λ c. count_by (λ r. p r c) []) cs (λ k d within. refl))
count_across p (r ∷ rs) cs =
    sum_by-cons (λ r. count_by (p r) cs) r rs
    ∙ ap (λ (n : ℕ). count_by (p r) cs + n) (count_across p rs cs)
    ∙ sym (sum_plus (λ c. cond (p r c) 1 0) (λ c. count_by (λ r. p r c) rs) cs)
    ∙ sum_same (λ c. cond (p r c) 1 0 + count_by (λ r. p r c) rs) (λ c. count_by (λ r. p r c) (r ∷ rs)) cs
    (λ k d within. sym (sum_by-cons (λ r. cond (p r (get_or cs k d)) 1 0) r rs))

-- of a list that has a once, only the term at a counts
abbrev at_only : (ℕ → ℕ) → ℕ → ℕ → ℕ
at_only f a c = cond (c == a) (f c) 0

sum_at : (f : ℕ → ℕ) (a : ℕ) (xs : List ℕ) → AllPairs (λ c d. c ≢ d) xs → Contains xs a → sum_by (at_only f a) xs ≡ f a
sum_at f a [] apart at = absurd (Contains-nil a at)
sum_at f a (x ∷ xs) apart at =
    elim (Contains-cases x xs a at) [
      | inl same ↦
          let here : at_only f a x ≡ f a = ap (λ t. cond t (f x) 0) (eq-eqb x a same) ∙ ap f same in
          let later : sum_by (at_only f a) xs ≡ 0 = sum_zero (at_only f a) xs (λ k d within.
          ap (λ t. cond t (f (get_or xs k d)) 0) (ne_eqb (get_or xs k d) a (λ other. apart 0 (suc k) d (omega arith) (omega arith) (same ∙ sym other)))) in
          omega (arith, sum_by-cons (at_only f a) x xs)
      | inr (i, within, is) ↦
          let here : at_only f a x ≡ 0 = ap (λ t. cond t (f x) 0) (ne_eqb x a (λ same. apart 0 (suc i) a (omega arith) (omega arith) (same ∙ sym is))) in
          omega (arith, sum_by-cons (at_only f a) x xs, sum_at f a xs (λ i j d before inside. apart (suc i) (suc j) d (omega arith) (omega arith)) (i, within, is))
    ]

swapped : (a b : Bool) → (a && b) ≡ (b && a)
swapped true true = refl
swapped true false = refl
swapped false true = refl
swapped false false = refl

-- ---- the groups of a relation

module _ (names : List (List ℕ)) (below : ℕ → ℕ → Bool) (s : IsSubsumption (length names) below) (two : 1 < length names) where
  abbrev order : List ℕ
  order = classes_in_order names

  abbrev rs : List ℕ
  rs = representatives names below

  representatives_distinct : AllPairs (λ c d. c ≢ d) rs
  representatives_distinct = AllPairs-filter (λ c d. c ≢ d) (λ c. representative names below c == c) order (classes_ordering names).distinct

  length_members : (r : ℕ) → r < length names → length (members names below r) ≡ count_by (is_equivalent below r) order
  length_members r r_in =
      let group = group_of names below r in
      let own : count_by (λ c. c == r) group ≡ 1 = sum_at (λ _. 1) r group
      (AllPairs-filter (λ c d. c ≢ d) (is_equivalent below r) order (classes_ordering names).distinct) (group_has names below s two r r_in) in
      omega (arith, length-filter_both (λ c. c == r) (λ c. not (c == r)) (λ _. refl) group, length-filter (λ c. c == r) group, length-filter (is_equivalent below r) order)

  -- ---- names: each class is in one group

  in_one : (c : ℕ) → c < length names → count_by (λ r. is_equivalent below r c) rs ≡ 1
  in_one c c_in =
      let a = representative names below c in
      let found = stands names below s two c c_in in
      let both = and_parts (below c a) (below a c) found.1 in
      sum_same (λ r. one_if (is_equivalent below r c)) (at_only (λ _. 1) a) rs
      (All-weaker (Contains rs) (λ r. one_if (is_equivalent below r c) ≡ one_if (r == a))
      (λ r at. let known = in_representatives names below r at in
      ap one_if (same_tests (is_equivalent below r c) (r == a)
      (λ h. let parts = and_parts (below r c) (below c r) h in
      eq-eqb r a (sym known.1 ∙ representative_same names below s two r c known.0 c_in parts.0 parts.1))
      (λ h. subst (λ (x : ℕ). is_equivalent below x c ≡ true) (sym (eqb-true r a h)) (and_from (below a c) (below c a) both.1 both.0))))
      rs (All-contains_itself rs))
      ∙ sum_at (λ _. 1) a rs representatives_distinct (represented names below s two c c_in)

  all_members : member_total (groups names below) ≡ name_count names below
  all_members =
      fold-map (λ (n : ℕ) (g : Group). n + length g.members) (group_at names below) 0 rs
      ∙ sum_same (λ r. length (members names below r)) (λ r. count_by (is_equivalent below r) order) rs
      (All-weaker (Contains rs) (λ r. length (members names below r) ≡ count_by (is_equivalent below r) order)
      (λ r at. length_members r (in_representatives names below r at).0) rs (All-contains_itself rs))
      ∙ count_across (is_equivalent below) rs order
      ∙ sum_same (λ c. count_by (λ r. is_equivalent below r c) rs) (λ _. 1) order
      (All-weaker (λ c. c < length names) (λ c. count_by (λ r. is_equivalent below r c) rs ≡ 1) in_one order (classes_within names))
      ∙ sum_ones order ∙ length-classes_in_order names

  -- ---- unsatisfiable classes: they are in the group of owl:Nothing

  nothing_stands : Contains rs 1
  nothing_stands = representative_in names below 1 two
      (ap (λ t. cond t 1 (cond (is_equivalent below 1 0) 0 (first_or 1 (group_of names below 1)))) (and_from (below 1 1) (below 1 1) (s.reflexive 1 two) (s.reflexive 1 two)))

  all_unsatisfiable : unsatisfiable_total (groups names below) ≡ unsatisfiable_count names below
  all_unsatisfiable =
      fold-map (λ (n : ℕ) (g : Group). n + unsatisfiable_in g) (group_at names below) 0 rs
      ∙ sum_at (λ r. length (members names below r) - 1) 1 rs representatives_distinct nothing_stands
      ∙ (let shorter : (n : ℕ) → suc n - 1 ≡ n = λ n. omega arith in shorter (length (filter (λ c. not (c == 1)) (group_of names below 1))))
      ∙ ap length (filter_twice (is_equivalent below 1) (λ c. not (c == 1)) order
      ∙ filter_agree (λ c. is_equivalent below 1 c && not (c == 1)) (λ c. is_equivalent below c 1 && not (c == 1))
      (λ c. ap (λ t. t && not (c == 1)) (swapped (below 1 c) (below c 1))) order)
      ∙ length-filter (λ c. is_equivalent below c 1 && not (c == 1)) order

  -- ---- links

  all_links : link_total (groups names below) ≡ link_count names below
  all_links =
      ap (sum_by (λ (g : Group). length g.parents)) (filter-map (group_at names below) is_proper rs)
      ∙ fold-map (λ (n : ℕ) (g : Group). n + length g.parents) (group_at names below) 0 (proper names below)
      ∙ ap (λ (f : ℕ → ℕ). sum_by f (proper names below)) (λ i r. length-map (parents names below r) (group_number rs) i)

-- ---- how long the lists are

two_classes : (document : Document) → 1 < length document.classes
two_classes document = omega (arith, ap length document.reserved, length-take 2 document.classes)

few_groups : (document : Document) (below : ℕ → ℕ → Bool) → IsSubsumption (length document.classes) below → AreFew (groups document.classes below)
few_groups document below s =
    let names = document.classes in
    let order = classes_in_order names in
    let rs = representatives names below in
    let few_order : length order < 2 ^ 32 = omega (arith, length-classes_in_order names, document.few_classes) in
    let few_representatives : length rs < 2 ^ 32
    = omega (arith, length-filter (λ c. representative names below c == c) order, count_by-le-length (λ c. representative names below c == c) order) in
    record {
      few = omega (arith, length-map rs (group_at names below));
      members = All-map (λ (g : Group). length g.members < 2 ^ 32) (group_at names below) rs
          (All-weaker (Contains rs) (λ r. length (members names below r) < 2 ^ 32)
          (λ r at. omega (arith, length_members names below s (two_classes document) r (in_representatives names below r at).0, count_by-le-length (is_equivalent below r) order))
          rs (All-contains_itself rs));
      inhabited = All-map (λ (g : Group). 0 < length g.members) (group_at names below) rs (λ k d within. omega arith);
      parents = All-map (λ (g : Group). length g.parents < 2 ^ 32) (group_at names below) rs (λ k d within.
          let r = get_or rs k d in
          omega (arith, length-map (parents names below r) (group_number rs), length-filter (is_parent names below r) rs, count_by-le-length (is_parent names below r) rs));
    }

-- ---- of a taxonomy

pub few_in_taxonomy : (gs : List Group) → (document : Document) × (below : ℕ → ℕ → Bool) × IsTaxonomyOf document below gs → AreFew gs
few_in_taxonomy gs (document, below, h) = subst AreFew (sym h.grouped) (few_groups document below h.subsumption)

pub summary_is : (gs : List Group) (document : Document) (below : ℕ → ℕ → Bool) → IsTaxonomyOf document below gs → (found : Summary)
    → found.names ≡ member_total gs → found.groups ≡ length gs → found.unsatisfiable ≡ unsatisfiable_total gs → found.links ≡ link_total gs
    → found ≡ summary_of document.classes below
summary_is gs document below h found names_is groups_is unsatisfiable_is links_is =
    let names = document.classes in
    let two = two_classes document in
    let one : found.names ≡ name_count names below = names_is ∙ ap member_total h.grouped ∙ all_members names below h.subsumption two in
    let second : found.groups ≡ group_count names below = groups_is ∙ ap length h.grouped ∙ length-map (representatives names below) (group_at names below) in
    let third : found.unsatisfiable ≡ unsatisfiable_count names below = unsatisfiable_is ∙ ap unsatisfiable_total h.grouped ∙ all_unsatisfiable names below h.subsumption two in
    let fourth : found.links ≡ link_count names below = links_is ∙ ap link_total h.grouped ∙ all_links names below h.subsumption two in
    λ i. record { names = one i; groups = second i; unsatisfiable = third i; links = fourth i }
