-- The text of a relation does not depend on the numbers of its classes.
use Rattle.std.proofs.Common.{◌≡◌, ℕ, ◌<◌, Bool, true, false, not, ◌&&◌, ◌||◌, nat_lt, ◌==◌, if◌then◌else◌, List, [], ◌∷◌, ◌++◌, length, map, filter, flat_map, refl, sym, ap, subst, ◌∙◌, arith, inl, inr}
use Rattle.std.specs.Prelude.{codes}
use Rattle.std.specs.List.{All, AllByRecursion, Contains, list_any, join_with_byte}
use Rattle.std.specs.List.Sorted.{IsStrictlySortedBy}
use Rattle.std.specs.Cmp.Lexicographic.{slice_cmp}
use Rattle.std.specs.Ordering.{nat_cmp}
use Rattle.std.specs.declared.cmp.Ordering.TheVariants.{Less}
use Rattle.std.proofs.lemmas.Bool.{cases_eq, eqb-true, eq-eqb, lt-ltb, ltb-true}
use Rattle.std.proofs.lemmas.List.{length-map}
use Rattle.std.proofs.lemmas.List.Elements.{All-contains, All-filter, recursion_from_All}
use Rattle.cd_meaning.specs.Hierarchy.{name_of, classes_in_order, is_equivalent, is_strictly_below, is_reserved, first_or, group_of, representative, representatives, members, has_between, is_parent, parents, proper}
use Rattle.cd_meaning.specs.MembershipTable.{list_any-map}
use Rattle.cd_meaning.specs.Text.{full_iri, line, equivalent_line, subclass_line, ended, group_text, parents_text, text}
use Rattle.cd_taxonomy.specs.Relation.{IsSubsumption}
use Rattle.cd_taxonomy.proofs.Lists.{same_tests, filter_same, filter-map, Contains-map, Contains-from_map}
use Rattle.cd_taxonomy.proofs.NameOrder.{by_name, by_name_total, classes_within, classes_contain, classes_rise}
use Rattle.cd_taxonomy.proofs.ReadBackGroups.{stands}
use Rattle.cd_taxonomy.proofs.RisingLists.{same_from_sorted}
use Rattle.cd_top.proofs.RestatedNames.{AreDistinct, two_distinct, same_number, at_start}

any_same : (p q : ℕ → Bool) (xs : List ℕ) → AllByRecursion (λ x. p x ≡ q x) xs → list_any p xs ≡ list_any q xs
any_same p q [] h = refl
any_same p q (x ∷ xs) h = ap (λ (t : Bool). t || list_any p xs) h.0 ∙ ap (λ (t : Bool). q x || t) (any_same p q xs h.1)

flat_same : (f : ℕ → ℕ) (g h : ℕ → List ℕ) (xs : List ℕ) → AllByRecursion (λ x. g (f x) ≡ h x) xs → flat_map g (map f xs) ≡ flat_map h xs
flat_same f g h [] same = refl
flat_same f g h (x ∷ xs) same =
    ap (λ (bytes : List ℕ). bytes ++ flat_map g (map f xs)) same.0 ∙ ap (λ (bytes : List ℕ). h x ++ bytes) (flat_same f g h xs same.1)

first_renumbered : (f : ℕ → ℕ) (c : ℕ) (xs : List ℕ) → first_or (f c) (map f xs) ≡ f (first_or c xs)
first_renumbered f c [] = refl
first_renumbered f c (x ∷ xs) = refl

-- the classes of one relation have other numbers in another, with the same names
module _ (names others : List (List ℕ)) (below below' : ℕ → ℕ → Bool) (f : ℕ → ℕ) (known : AreDistinct names) (known' : AreDistinct others) (s : IsSubsumption (length names) below)
    (within : (c : ℕ) → c < length names → f c < length others)
    (named : (c : ℕ) → c < length names → name_of others (f c) ≡ name_of names c)
    (onto : (d : ℕ) → d < length others → (c : ℕ) × (c < length names) × (f c ≡ d))
    (agrees : (a b : ℕ) → a < length names → b < length names → below' (f a) (f b) ≡ below a b) where
  two : 1 < length names
  two = two_distinct names known

  -- ---- numbers

  one_to_one : (a b : ℕ) → a < length names → b < length names → f a ≡ f b → a ≡ b
  one_to_one a b a_in b_in same = same_number names known.distinct a b a_in b_in [] [] (sym (named a a_in) ∙ ap (name_of others) same ∙ named b b_in)

  thing_stays : f 0 ≡ 0
  thing_stays =
      let zero_in : 0 < length names = omega (arith, two) in
      same_number others known'.distinct (f 0) 0 (within 0 zero_in) (omega (arith, two_distinct others known')) [] []
      (named 0 zero_in ∙ (at_start names known.reserved).0 ∙ sym (at_start others known'.reserved).0)

  nothing_stays : f 1 ≡ 1
  nothing_stays =
      same_number others known'.distinct (f 1) 1 (within 1 two) (two_distinct others known') [] []
      (named 1 two ∙ (at_start names known.reserved).1 ∙ sym (at_start others known'.reserved).1)

  same_equal : (a b : ℕ) → a < length names → b < length names → (f a == f b) ≡ (a == b)
  same_equal a b a_in b_in = same_tests (f a == f b) (a == b)
      (λ h. eq-eqb a b (one_to_one a b a_in b_in (eqb-true (f a) (f b) h)))
      (λ h. eq-eqb (f a) (f b) (ap f (eqb-true a b h)))

  same_reserved : (c : ℕ) → c < length names → is_reserved (f c) ≡ is_reserved c
  same_reserved c c_in = same_tests (is_reserved (f c)) (is_reserved c)
      (λ h. let less : f c < 2 = ltb-true (f c) 2 h in
      lt-ltb c 2 (elim (cases_eq (f c) 0) [
        | inl is ↦ let zero_is : c ≡ 0 = one_to_one c 0 c_in (omega (arith, two)) (is ∙ sym thing_stays) in omega arith
        | inr other ↦ let one_is : c ≡ 1 = one_to_one c 1 c_in two (let is : f c ≡ 1 = omega arith in is ∙ sym nothing_stays) in omega arith
      ]))
      (λ h. let less : c < 2 = ltb-true c 2 h in
      lt-ltb (f c) 2 (elim (cases_eq c 0) [
        | inl is ↦ let to_zero : f c ≡ 0 = ap f is ∙ thing_stays in omega arith
        | inr other ↦ let is : c ≡ 1 = omega arith in let to_one : f c ≡ 1 = ap f is ∙ nothing_stays in omega arith
      ]))

  -- ---- lists

  filtered : (p' p : ℕ → Bool) (xs : List ℕ) → All (λ c. c < length names) xs → ((c : ℕ) → c < length names → p' (f c) ≡ p c) → filter p' (map f xs) ≡ map f (filter p xs)
  filtered p' p xs all same = filter-map f p' xs ∙ ap (map f) (filter_same (λ c. p' (f c)) p xs (λ k d inside. same _ (all k d inside)))

  rises_from : (c : ℕ) → c < length names → (ds : List ℕ) → AllByRecursion (λ d. d < length names) ds
      → AllByRecursion (λ d. by_name names c d ≡ Less) ds → AllByRecursion (λ d. by_name others (f c) d ≡ Less) (map f ds)
  rises_from c c_in [] inside up = tt
  rises_from c c_in (d ∷ ds) inside up = (
    ap (λ (i : List ℕ). slice_cmp nat_cmp i (name_of others (f d))) (named c c_in) ∙ ap (slice_cmp nat_cmp (name_of names c)) (named d inside.0) ∙ up.0,
    rises_from c c_in ds inside.1 up.1,
  )

  rises : (cs : List ℕ) → AllByRecursion (λ c. c < length names) cs → IsStrictlySortedBy (by_name names) cs → IsStrictlySortedBy (by_name others) (map f cs)
  unfolding IsStrictlySortedBy
  rises [] inside up = tt
  rises (c ∷ cs) inside up = (rises_from c inside.0 cs inside.1 up.0, rises cs inside.1 up.1)

  in_order : classes_in_order others ≡ map f (classes_in_order names)
  in_order =
      let cs : List ℕ = classes_in_order names in
      sym (same_from_sorted (by_name_total others) (map f cs) (classes_in_order others)
      (rises cs (recursion_from_All (λ c. c < length names) cs (classes_within names)) (classes_rise names known.distinct))
      (classes_rise others known'.distinct)
      (λ d at.
      let from = Contains-from_map f cs d at in
      subst (Contains (classes_in_order others)) from.2 (classes_contain others (f from.0) (within from.0 (All-contains (λ c. c < length names) cs from.0 (classes_within names) from.1))))
      (λ d at.
      let from = onto d (All-contains (λ c. c < length others) (classes_in_order others) d (classes_within others) at) in
      subst (Contains (map f cs)) from.2 (Contains-map f cs from.0 (classes_contain names from.0 from.1))))

  -- ---- groups

  same_equivalent : (c d : ℕ) → c < length names → d < length names → is_equivalent below' (f c) (f d) ≡ is_equivalent below c d
  same_equivalent c d c_in d_in = ap (λ (t : Bool). t && below' (f d) (f c)) (agrees c d c_in d_in) ∙ ap (λ (t : Bool). below c d && t) (agrees d c d_in c_in)

  same_strictly : (c d : ℕ) → c < length names → d < length names → is_strictly_below below' (f c) (f d) ≡ is_strictly_below below c d
  same_strictly c d c_in d_in = ap (λ (t : Bool). t && not (below' (f d) (f c))) (agrees c d c_in d_in) ∙ ap (λ (t : Bool). below c d && not t) (agrees d c d_in c_in)

  group_within : (c : ℕ) → All (λ d. d < length names) (group_of names below c)
  group_within c = All-filter (is_equivalent below c) (λ d. d < length names) (classes_in_order names) (classes_within names)

  group : (c : ℕ) → c < length names → group_of others below' (f c) ≡ map f (group_of names below c)
  group c c_in =
      ap (filter (is_equivalent below' (f c))) in_order
      ∙ filtered (is_equivalent below' (f c)) (is_equivalent below c) (classes_in_order names) (classes_within names) (λ d d_in. same_equivalent c d c_in d_in)

  pulled : (t u : Bool) (x : ℕ) → (if t then 1 else (if u then 0 else f x)) ≡ f (if t then 1 else (if u then 0 else x))
  pulled true u x = sym nothing_stays
  pulled false true x = sym thing_stays
  pulled false false x = refl

  same_representative : (c : ℕ) → c < length names → representative others below' (f c) ≡ f (representative names below c)
  same_representative c c_in =
      let with_nothing : is_equivalent below' (f c) 1 ≡ is_equivalent below c 1 = ap (is_equivalent below' (f c)) (sym nothing_stays) ∙ same_equivalent c 1 c_in two in
      let with_thing : is_equivalent below' (f c) 0 ≡ is_equivalent below c 0 = ap (is_equivalent below' (f c)) (sym thing_stays) ∙ same_equivalent c 0 c_in (omega (arith, two)) in
      let first : first_or (f c) (group_of others below' (f c)) ≡ f (first_or c (group_of names below c))
      = ap (first_or (f c)) (group c c_in) ∙ first_renumbered f c (group_of names below c) in
      ap (λ (t : Bool). if t then 1 else (if is_equivalent below' (f c) 0 then 0 else first_or (f c) (group_of others below' (f c)))) with_nothing
      ∙ ap (λ (t : Bool). if is_equivalent below c 1 then 1 else (if t then 0 else first_or (f c) (group_of others below' (f c)))) with_thing
      ∙ ap (λ (x : ℕ). if is_equivalent below c 1 then 1 else (if is_equivalent below c 0 then 0 else x)) first
      ∙ pulled (is_equivalent below c 1) (is_equivalent below c 0) (first_or c (group_of names below c))

  same_representatives : representatives others below' ≡ map f (representatives names below)
  same_representatives =
      ap (filter (λ c. representative others below' c == c)) in_order
      ∙ filtered (λ c. representative others below' c == c) (λ c. representative names below c == c) (classes_in_order names) (classes_within names)
      (λ c c_in.
      ap (λ (x : ℕ). x == f c) (same_representative c c_in)
      ∙ same_equal (representative names below c) c (stands names below s two c c_in).0 c_in)

  representatives_within : All (λ c. c < length names) (representatives names below)
  representatives_within = All-filter (λ c. representative names below c == c) (λ c. c < length names) (classes_in_order names) (classes_within names)

  same_group : (r : ℕ) → r < length names → members others below' (f r) ≡ map f (members names below r)
  same_group r r_in =
      ap (λ (xs : List ℕ). f r ∷ xs)
      (ap (filter (λ c. not (c == f r))) (group r r_in)
      ∙ filtered (λ c. not (c == f r)) (λ c. not (c == r)) (group_of names below r) (group_within r) (λ c c_in. ap not (same_equal c r c_in r_in)))

  members_within : (r : ℕ) → r < length names → AllByRecursion (λ c. c < length names) (members names below r)
  members_within r r_in = (
    r_in,
    recursion_from_All (λ c. c < length names) (filter (λ c. not (c == r)) (group_of names below r))
        (All-filter (λ c. not (c == r)) (λ c. c < length names) (group_of names below r) (group_within r)),
  )

  -- ---- direct superclasses

  all_same : (P : ℕ → Type 0) (xs : List ℕ) → ((c : ℕ) → c < length names → P c) → AllByRecursion (λ c. c < length names) xs → AllByRecursion P xs
  all_same P [] each inside = tt
  all_same P (x ∷ xs) each inside = (each x inside.0, all_same P xs each inside.1)

  same_between : (c d : ℕ) → c < length names → d < length names → has_between others below' (f c) (f d) ≡ has_between names below c d
  same_between c d c_in d_in =
      let between' : ℕ → Bool = λ e. is_strictly_below below' (f c) e && is_strictly_below below' e (f d) in
      let between : ℕ → Bool = λ e. is_strictly_below below c e && is_strictly_below below e d in
      ap (list_any between') same_representatives
      ∙ list_any-map between' f (representatives names below)
      ∙ any_same (λ e. between' (f e)) between (representatives names below)
      (all_same (λ e. between' (f e) ≡ between e) (representatives names below)
      (λ e e_in. ap (λ (t : Bool). t && is_strictly_below below' (f e) (f d)) (same_strictly c e c_in e_in) ∙ ap (λ (t : Bool). is_strictly_below below c e && t) (same_strictly e d e_in d_in))
      (recursion_from_All (λ e. e < length names) (representatives names below) representatives_within))

  same_parents : (r : ℕ) → r < length names → parents others below' (f r) ≡ map f (parents names below r)
  same_parents r r_in =
      ap (filter (is_parent others below' (f r))) same_representatives
      ∙ filtered (is_parent others below' (f r)) (is_parent names below r) (representatives names below) representatives_within
      (λ d d_in. ap (λ (t : Bool). t && not (has_between others below' (f r) (f d))) (same_strictly r d r_in d_in)
      ∙ ap (λ (t : Bool). is_strictly_below below r d && not t) (same_between r d r_in d_in))

  same_proper : proper others below' ≡ map f (proper names below)
  same_proper =
      ap (filter (λ r. not (list_any is_reserved (members others below' r)))) same_representatives
      ∙ filtered (λ r. not (list_any is_reserved (members others below' r))) (λ r. not (list_any is_reserved (members names below r)))
      (representatives names below) representatives_within
      (λ r r_in. ap not
      (ap (list_any is_reserved) (same_group r r_in)
      ∙ list_any-map is_reserved f (members names below r)
      ∙ any_same (λ c. is_reserved (f c)) is_reserved (members names below r)
      (all_same (λ c. is_reserved (f c) ≡ is_reserved c) (members names below r) same_reserved (members_within r r_in))))

  -- ---- the text

  same_iri : (c : ℕ) → c < length names → full_iri others (f c) ≡ full_iri names c
  same_iri c c_in = ap (λ (i : List ℕ). 60 ∷ i ++ 62 ∷ []) (named c c_in)

  same_iris : (cs : List ℕ) → AllByRecursion (λ c. c < length names) cs → map (full_iri others) (map f cs) ≡ map (full_iri names) cs
  same_iris [] inside = refl
  same_iris (c ∷ cs) inside =
      ap (λ (x : List ℕ). x ∷ map (full_iri others) (map f cs)) (same_iri c inside.0) ∙ ap (λ (xs : List (List ℕ)). full_iri names c ∷ xs) (same_iris cs inside.1)

  same_line : (word : List ℕ) (cs : List ℕ) → AllByRecursion (λ c. c < length names) cs → line others word (map f cs) ≡ line names word cs
  same_line word cs inside = ap (λ (xs : List (List ℕ)). word ++ 40 ∷ join_with_byte 32 xs ++ 41 ∷ []) (same_iris cs inside)

  same_group_text : (r : ℕ) → r < length names → group_text others (members others below' (f r)) ≡ group_text names (members names below r)
  same_group_text r r_in =
      let cs : List ℕ = members names below r in
      ap (group_text others) (same_group r r_in)
      ∙ ap (λ (n : ℕ). if nat_lt 1 n then ended (equivalent_line others (map f cs)) else []) (length-map cs f)
      ∙ ap (λ (l : List ℕ). if nat_lt 1 (length cs) then ended l else []) (same_line (codes "EquivalentClasses") cs (members_within r r_in))

  parents_within : (r : ℕ) → AllByRecursion (λ c. c < length names) (parents names below r)
  parents_within r = recursion_from_All (λ c. c < length names) (parents names below r)
      (All-filter (is_parent names below r) (λ c. c < length names) (representatives names below) representatives_within)

  same_parents_text : (r : ℕ) → r < length names → parents_text others (f r) (parents others below' (f r)) ≡ parents_text names r (parents names below r)
  same_parents_text r r_in =
      ap (parents_text others (f r)) (same_parents r r_in)
      ∙ flat_same f (λ d. ended (subclass_line others (f r) d)) (λ d. ended (subclass_line names r d)) (parents names below r)
      (all_same (λ d. ended (subclass_line others (f r) (f d)) ≡ ended (subclass_line names r d)) (parents names below r)
      (λ d d_in. ap ended (same_line (codes "SubClassOf") (r ∷ d ∷ []) (r_in, (d_in, tt))))
      (parents_within r))

  pub same_text : text others below' ≡ text names below
  same_text =
      let rs : List ℕ = representatives names below in
      let ps : List ℕ = proper names below in
      let rs_in = recursion_from_All (λ c. c < length names) rs representatives_within in
      let ps_in = recursion_from_All (λ c. c < length names) ps
      (All-filter (λ r. not (list_any is_reserved (members names below r))) (λ c. c < length names) rs representatives_within) in
      let groups : flat_map (λ r. group_text others (members others below' r)) (representatives others below') ≡ flat_map (λ r. group_text names (members names below r)) rs
      = ap (flat_map (λ r. group_text others (members others below' r))) same_representatives
      ∙ flat_same f (λ r. group_text others (members others below' r)) (λ r. group_text names (members names below r)) rs
      (all_same (λ r. group_text others (members others below' (f r)) ≡ group_text names (members names below r)) rs same_group_text rs_in) in
      let links : flat_map (λ r. parents_text others r (parents others below' r)) (proper others below') ≡ flat_map (λ r. parents_text names r (parents names below r)) ps
      = ap (flat_map (λ r. parents_text others r (parents others below' r))) same_proper
      ∙ flat_same f (λ r. parents_text others r (parents others below' r)) (λ r. parents_text names r (parents names below r)) ps
      (all_same (λ r. parents_text others (f r) (parents others below' (f r)) ≡ parents_text names r (parents names below r)) ps same_parents_text ps_in) in
      ap (λ (bytes : List ℕ). ended (codes "Ontology(") ++ bytes ++ flat_map (λ r. parents_text others r (parents others below' r)) (proper others below') ++ ended (codes ")")) groups
      ∙ ap (λ (bytes : List ℕ). ended (codes "Ontology(") ++ flat_map (λ r. group_text names (members names below r)) rs ++ bytes ++ ended (codes ")")) links
