-- What the axioms of a printed taxonomy entail.
use Rattle.std.proofs.Common.{◌≡◌, ◌≢◌, ◌⊎◌, ℕ, ◌<◌, Bool, true, false, not, ◌&&◌, ◌||◌, ◌==◌, List, [], ◌∷◌, ◌++◌, length, map, filter, flat_map, take, get_or, refl, sym, ap, subst, ◌∙◌, arith, inl, inr}
use Rattle.std.specs.Prelude.{AllPairs}
use Rattle.std.specs.List.{All, AllByRecursion, Any, Contains, list_all, list_any, range_with_len}
use Rattle.std.proofs.lemmas.Bool.{and_parts, and_from, both_ways, cases_Bool, lt-ltb, ne_eqb, eqb-true, eq-eqb}
use Rattle.std.proofs.lemmas.List.{get_or_default}
use Rattle.std.proofs.lemmas.List.Elements.{All-cons, All-contains, All-contains_itself, All-map, All-nil, All-weaker, Contains-append_cases, Contains-append_left, Contains-append_right, recursion_from_All}
use Rattle.std.proofs.lemmas.List.Folds.{Any-from_list_any, list_any-from_Any}
use Rattle.std.proofs.lemmas.List.Sums.{list_all-from_AllPass}
use Rattle.cd_base.specs.Iri.{IsIri}
use Rattle.cd_meaning.specs.declared.expression.Axiom.{Axiom}
use Rattle.cd_meaning.specs.declared.expression.Expr.{Expr}
use Rattle.cd_meaning.specs.declared.expression.Expr.TheVariants.{Name}
use Rattle.cd_meaning.specs.declared.interpretation.Interpretation.{Interpretation}
use Rattle.cd_meaning.specs.declared.interpretation.Edge.{Edge}
use Rattle.cd_meaning.specs.declared.interpretation.Member.{Member}
use Rattle.cd_meaning.specs.Entailment.{Entails, IsModel}
use Rattle.cd_meaning.specs.Hierarchy.{name_of, representatives, members, parents, proper}
use Rattle.cd_meaning.specs.Iri.{thing, nothing, reserved_classes}
use Rattle.cd_meaning.specs.Membership.{class_has, member}
use Rattle.cd_meaning.specs.MembershipTable.{member-Name}
use Rattle.cd_meaning.specs.Numbered.{is_in_range, has_numbers_below}
use Rattle.cd_meaning.specs.NodesTable.{below-Name}
use Rattle.cd_meaning.specs.Truth.{Holds, HasSameMembers, EveryTwo, IsBelow}
use Rattle.cd_names.specs.Names.{add_name, number}
use Rattle.cd_taxonomy.specs.Relation.{IsSubsumption}
use Rattle.cd_taxonomy.specs.ReadBack.{AreNames}
use Rattle.cd_taxonomy.proofs.Connected.{connected}
use Rattle.cd_taxonomy.proofs.Lists.{Contains-first, Contains-later, Contains-cases, Contains-nil, Contains-filter, Contains-from_filter, passes_from_filter, Contains-map, Contains-from_map}
use Rattle.cd_taxonomy.proofs.OneRepresentative.{in_representatives}
use Rattle.cd_taxonomy.proofs.Ranges.{range_contains, range_within}
use Rattle.cd_taxonomy.proofs.ReadBackLines.{contains_flat_map, flat_map_contains}
use Rattle.cd_taxonomy.proofs.ReadBackSound.{two_names, in_members, in_parents, proper_represents}
use Rattle.cd_syntax.proofs.Added.{distinct_added}
use Rattle.cd_top.proofs.RestatedLines.{Statement, Same, Sub, operands, of_group, statements, HaveIris}
use Rattle.cd_top.proofs.RestatedNames.{at_start, none_alike, all_added, stays_all, there_all, add_all, front_itself, number_inside, number_names, number_is, same_number}
use Rattle.cd_top.proofs.RestatedTokens.{operand_names, classes_after, front_after, renumbered, named, axiom_of}

or_right : (t u : Bool) → u ≡ true → (t || u) ≡ true
or_right true u h = refl
or_right false u h = h

or_cases : (t u : Bool) → (t || u) ≡ true → (t ≡ true) ⊎ (u ≡ true)
or_cases true u h = inl refl
or_cases false u h = inr h

module _ (names : List (List ℕ)) (below : ℕ → ℕ → Bool) (known : AreNames names) (s : IsSubsumption (length names) below) where
  two : 1 < length names
  two = two_names names known

  abbrev pub lines : List Statement
  lines = statements names below

  -- ---- what a line says is so

  -- the classes of a line are below each other, or the first is below the second
  abbrev IsSo : Statement → Type 0
  IsSo (Same c d more) = (a b : ℕ) → Contains (c ∷ d ∷ more) a → Contains (c ∷ d ∷ more) b → below a b ≡ true
  IsSo (Sub c d) = below c d ≡ true

  -- it has classes of the relation
  record IsRight (st : Statement) : Type 0 where
    within : All (λ c. c < length names) (operands st)
    so : IsSo st

  right_group : (r : ℕ) (group : List ℕ) → Contains (representatives names below) r → members names below r ≡ group → (st : Statement) → Contains (of_group group) st → IsRight st
  right_group r [] at is st h = absurd (Contains-nil st h)
  right_group r (c ∷ []) at is st h = absurd (Contains-nil st h)
  right_group r (c ∷ d ∷ more) at is st h =
      let inside : (a : ℕ) → Contains (c ∷ d ∷ more) a → (a < length names) × (below r a ≡ true) × (below a r ≡ true)
      = λ a a_at. in_members names below known s r a at (subst (λ (xs : List ℕ). Contains xs a) (sym is) a_at) in
      let r_in = (in_representatives names below r at).0 in
      let this : IsRight (Same c d more) = record {
        within = All-weaker (Contains (c ∷ d ∷ more)) (λ x. x < length names) (λ x x_at. (inside x x_at).0) (c ∷ d ∷ more) (All-contains_itself (c ∷ d ∷ more));
        so = λ a b a_at b_at. s.transitive a r b (inside a a_at).0 r_in (inside b b_at).0 (inside a a_at).2 (inside b b_at).1;
      } in
      elim (Contains-cases (Same c d more) [] st h) [
        | inl same ↦ subst IsRight same this
        | inr later ↦ absurd (Contains-nil st later)
      ]

  right : (st : Statement) → Contains lines st → IsRight st
  right st h =
      elim (Contains-append_cases (flat_map (λ r. of_group (members names below r)) (representatives names below)) (flat_map (λ r. map (Sub r) (parents names below r)) (proper names below)) st h) [
        | inl group ↦
            let found = contains_flat_map (λ r. of_group (members names below r)) (representatives names below) st group in
            right_group found.0 (members names below found.0) found.1 refl st found.2
        | inr link ↦
            let found = contains_flat_map (λ r. map (Sub r) (parents names below r)) (proper names below) st link in
            let r = found.0 in
            let parent = Contains-from_map (Sub r) (parents names below r) st found.2 in
            let d = parent.0 in
            let d_is = in_parents names below known s r d parent.1 in
            let r_in = (in_representatives names below r (proper_represents names below known s r found.1)).0 in
            let this : IsRight (Sub r d) = record {
              within = All-cons (λ c. c < length names) r (d ∷ []) r_in (All-cons (λ c. c < length names) d [] d_is.0 (All-nil (λ c. c < length names)));
              so = d_is.1;
            } in
            subst IsRight parent.2 this
      ]

  pub lines_iris : AllByRecursion (λ (st : Statement). HaveIris names (operands st)) lines
  lines_iris = recursion_from_All (λ (st : Statement). HaveIris names (operands st)) lines
      (All-weaker (Contains lines) (λ (st : Statement). HaveIris names (operands st))
      (λ st at. recursion_from_All (λ (c : ℕ). IsIri (name_of names c)) (operands st)
      (All-weaker (λ c. c < length names) (λ (c : ℕ). IsIri (name_of names c)) (λ c c_in. known.iris c [] c_in) (operands st) (right st at).within))
      lines (All-contains_itself lines))

  -- ---- which lines there are

  group_line : (r : ℕ) (group : List ℕ) → members names below r ≡ group → Contains (representatives names below) r → 1 < length group
      → (c : ℕ) × (d : ℕ) × (more : List ℕ) × Contains lines (Same c d more) × (members names below r ≡ c ∷ d ∷ more)
  group_line r [] is at many = absurd (omega arith)
  group_line r (c ∷ []) is at many = absurd (omega arith)
  group_line r (c ∷ d ∷ more) is at many =
      let st : Statement = Same c d more in
      let here : Contains (of_group (members names below r)) st = subst (λ (xs : List ℕ). Contains (of_group xs) st) (sym is) (Contains-first st []) in (
        c,
        d,
        more,
        Contains-append_left (flat_map (λ t. of_group (members names below t)) (representatives names below)) (flat_map (λ t. map (Sub t) (parents names below t)) (proper names below)) st
            (flat_map_contains (λ t. of_group (members names below t)) (representatives names below) r st at here),
        is,
      )

  parent_line : (r d : ℕ) → Contains (proper names below) r → Contains (parents names below r) d → Contains lines (Sub r d)
  parent_line r d at parent =
      Contains-append_right (flat_map (λ t. of_group (members names below t)) (representatives names below)) (flat_map (λ t. map (Sub t) (parents names below t)) (proper names below)) (Sub r d)
      (flat_map_contains (λ t. map (Sub t) (parents names below t)) (proper names below) r (Sub r d) at (Contains-map (Sub r) (parents names below r) d parent))

  -- ---- the names in the end

  abbrev pub final : List (List ℕ)
  final = classes_after names reserved_classes lines

  abbrev pub number_of : ℕ → ℕ
  number_of = renumbered names final

  -- ---- every class is in a line, or is owl:Thing or owl:Nothing

  abbrev Occurs : ℕ → Type 0
  Occurs a = (st : Statement) × Contains lines st × Contains (operands st) a

  abbrev IsKnown : ℕ → ℕ → Type 0
  IsKnown a b = (a ≡ b) ⊎ (a ≡ 1) ⊎ Occurs a

  known_on : (a b c : ℕ) → IsKnown a b → IsKnown b c → IsKnown a c
  known_on a b c (inl same) more = subst (λ x. IsKnown x c) (sym same) more
  known_on a b c (inr is) more = inr is

  known_in_group : (r a : ℕ) → Contains (representatives names below) r → 1 < length (members names below r) → Contains (members names below r) a → IsKnown r a × IsKnown a r
  known_in_group r a at many a_at =
      let line = group_line r (members names below r) refl at many in
      let st : Statement = Same line.0 line.1 line.2 in
      let listed : (b : ℕ) → Contains (members names below r) b → Contains (operands st) b = λ b b_at. subst (λ (xs : List ℕ). Contains xs b) line.4 b_at in
      (inr (inr (st, line.3, listed r (0, omega (arith, many), refl))), inr (inr (st, line.3, listed a a_at)))

  occurs : (a : ℕ) → a < length names → (a ≡ 0) ⊎ (a ≡ 1) ⊎ Occurs a
  occurs a a_in = connected names below known s two IsKnown (λ b. inl refl) known_on (λ d d_in. inr (inl refl)) known_in_group
      (λ r d at parent. inr (inr (Sub r d, parent_line r d at parent, Contains-first r (d ∷ []))))
      a 0 a_in (omega (arith, two)) (s.thing a a_in)

  -- ---- the names in the end are the names

  named_operand : (cs : List ℕ) (c : ℕ) → Contains cs c → Contains (operand_names names cs) (name_of names c)
  named_operand [] c at = absurd (Contains-nil c at)
  named_operand (x ∷ cs) c at = elim (Contains-cases x cs c at) [
    | inl same ↦ subst (λ y. Contains (operand_names names (x ∷ cs)) (name_of names y)) same (Contains-first (name_of names x) (operand_names names cs))
    | inr later ↦ Contains-later (name_of names x) (operand_names names cs) (name_of names c) (named_operand cs c later)
  ]

  stays_after : (xs : List (List ℕ)) (ss : List Statement) (i : List ℕ) → Contains xs i → Contains (classes_after names xs ss) i
  stays_after xs [] i at = at
  stays_after xs (st ∷ ss) i at = stays_after (add_all xs (operand_names names (operands st))) ss i (stays_all xs (operand_names names (operands st)) i at)

  there_after : (xs : List (List ℕ)) (ss : List Statement) (st : Statement) (c : ℕ) → Contains ss st → Contains (operands st) c → Contains (classes_after names xs ss) (name_of names c)
  there_after xs [] st c at c_at = absurd (Contains-nil st at)
  there_after xs (t ∷ ss) st c at c_at = elim (Contains-cases t ss st at) [
    | inl same ↦ stays_after (add_all xs (operand_names names (operands t))) ss (name_of names c)
        (there_all xs (operand_names names (operands t)) (name_of names c) (named_operand (operands t) c (subst (λ (u : Statement). Contains (operands u) c) (sym same) c_at)))
    | inr later ↦ there_after (add_all xs (operand_names names (operands t))) ss st c later c_at
  ]

  -- each class has its name in the end
  pub has_name : (c : ℕ) → c < length names → Contains final (name_of names c)
  has_name c c_in =
      let start = at_start names known.reserved in
      elim (occurs c c_in) [
        | inl is ↦ subst (Contains final) (sym (ap (name_of names) is ∙ start.0)) (stays_after reserved_classes lines thing (0, omega arith, refl))
        | inr (inl is) ↦ subst (Contains final) (sym (ap (name_of names) is ∙ start.1)) (stays_after reserved_classes lines nothing (1, omega arith, refl))
        | inr (inr found) ↦ there_after reserved_classes lines found.0 c found.1 found.2
      ]

  all_of_operands : (P : List ℕ → Type 0) (xs : List (List ℕ)) (cs : List ℕ) → AllByRecursion (λ c. P (name_of names c)) cs → All P xs → All P (add_all xs (operand_names names cs))
  all_of_operands P xs [] each all = all
  all_of_operands P xs (c ∷ cs) each all = all_of_operands P (add_name xs (name_of names c)) cs each.1 (all_added P xs (name_of names c) all each.0)

  all_after : (P : List ℕ → Type 0) (xs : List (List ℕ)) (ss : List Statement) → AllByRecursion (λ (st : Statement). AllByRecursion (λ c. P (name_of names c)) (operands st)) ss
      → All P xs → All P (classes_after names xs ss)
  all_after P xs [] each all = all
  all_after P xs (st ∷ ss) each all = all_after P (add_all xs (operand_names names (operands st))) ss each.1 (all_of_operands P xs (operands st) each.0 all)

  is_name : (c : ℕ) → c < length names → Contains names (name_of names c)
  is_name c c_in = (c, c_in, get_or_default names c (name_of names c) [] c_in)

  -- and there are no other names
  pub are_names : All (Contains names) final
  are_names =
      let start = at_start names known.reserved in
      let P : List ℕ → Type 0 = Contains names in
      all_after P reserved_classes lines
      (recursion_from_All (λ (st : Statement). AllByRecursion (λ c. P (name_of names c)) (operands st)) lines
      (All-weaker (Contains lines) (λ (st : Statement). AllByRecursion (λ c. P (name_of names c)) (operands st))
      (λ st at. recursion_from_All (λ c. P (name_of names c)) (operands st)
      (All-weaker (λ c. c < length names) (λ c. P (name_of names c)) is_name (operands st) (right st at).within))
      lines (All-contains_itself lines)))
      (All-cons P thing (nothing ∷ []) (subst P start.0 (is_name 0 (omega (arith, two))))
      (All-cons P nothing [] (subst P start.1 (is_name 1 two)) (All-nil P)))

  distinct_operands : (xs is : List (List ℕ)) → AllPairs (λ a b. a ≢ b) xs → AllPairs (λ a b. a ≢ b) (add_all xs is)
  distinct_operands xs [] h = h
  distinct_operands xs (i ∷ is) h = distinct_operands (add_name xs i) is (distinct_added xs i h)

  distinct_after : (xs : List (List ℕ)) (ss : List Statement) → AllPairs (λ a b. a ≢ b) xs → AllPairs (λ a b. a ≢ b) (classes_after names xs ss)
  distinct_after xs [] h = h
  distinct_after xs (st ∷ ss) h = distinct_after (add_all xs (operand_names names (operands st))) ss (distinct_operands xs (operand_names names (operands st)) h)

  pub final_distinct : AllPairs (λ a b. a ≢ b) final
  final_distinct = distinct_after reserved_classes lines (distinct_added (thing ∷ []) nothing (distinct_added [] thing none_alike))

  pub final_reserved : take 2 final ≡ reserved_classes
  final_reserved = let front = front_after names reserved_classes lines final (front_itself final) in ap (λ (xs : List (List ℕ)). take 2 xs) front.1

  -- ---- the numbers in the end

  pub number_inside_final : (c : ℕ) → c < length names → number_of c < length final
  number_inside_final c c_in = number_inside final (name_of names c) (has_name c c_in)

  pub name_at : (c : ℕ) → c < length names → (d : List ℕ) → get_or final (number_of c) d ≡ name_of names c
  name_at c c_in d = number_names final (name_of names c) d (has_name c c_in)

  pub same_class : (a b : ℕ) → a < length names → b < length names → number_of a ≡ number_of b → a ≡ b
  same_class a b a_in b_in same =
      same_number names known.distinct a b a_in b_in [] [] (sym (name_at a a_in []) ∙ ap (λ (k : ℕ). get_or final k []) same ∙ name_at b b_in [])

  starts : (more : List (List ℕ)) → final ≡ reserved_classes ++ more → (number final thing ≡ 0) × (number final nothing ≡ 1)
  starts more is = (
    number_is final final_distinct thing 0 [] (subst (λ (xs : List (List ℕ)). 0 < length xs) (sym is) (omega arith)) (ap (λ (xs : List (List ℕ)). get_or xs 0 []) is),
    number_is final final_distinct nothing 1 [] (subst (λ (xs : List (List ℕ)). 1 < length xs) (sym is) (omega arith)) (ap (λ (xs : List (List ℕ)). get_or xs 1 []) is),
  )

  pub number_of_thing : number_of 0 ≡ 0
  number_of_thing =
      let front = front_after names reserved_classes lines final (front_itself final) in
      ap (number final) (at_start names known.reserved).0 ∙ (starts front.0 front.1).0

  pub number_of_nothing : number_of 1 ≡ 1
  number_of_nothing =
      let front = front_after names reserved_classes lines final (front_itself final) in
      ap (number final) (at_start names known.reserved).1 ∙ (starts front.0 front.1).1

  -- an axiom's numbers are in range
  numbered_operands : (roles : ℕ) (cs : List ℕ) → All (λ c. c < length names) cs → list_all (is_in_range (length final) roles) (map (named names final) cs) ≡ true
  numbered_operands roles cs inside = list_all-from_AllPass (is_in_range (length final) roles) (map (named names final) cs)
      (All-map (λ (x : Expr). is_in_range (length final) roles x ≡ true) (named names final) cs
      (All-weaker (λ c. c < length names) (λ c. is_in_range (length final) roles (named names final c) ≡ true)
      (λ c c_in. below-Name (length final) roles (number_of c) ∙ lt-ltb (number_of c) (length final) (number_inside_final c c_in)) cs inside))

  numbered_line : (roles : ℕ) (st : Statement) → IsRight st → has_numbers_below (length final) roles (axiom_of names final st) ≡ true
  numbered_line roles (Same c d more) r = numbered_operands roles (c ∷ d ∷ more) r.within
  numbered_line roles (Sub c d) r =
      let both = and_parts (is_in_range (length final) roles (named names final c)) (is_in_range (length final) roles (named names final d) && true) (numbered_operands roles (c ∷ d ∷ []) r.within) in
      and_from (is_in_range (length final) roles (named names final c)) (is_in_range (length final) roles (named names final d)) both.0
      (and_parts (is_in_range (length final) roles (named names final d)) true both.1).0

  pub numbered : (roles : ℕ) → list_all (has_numbers_below (length final) roles) (map (axiom_of names final) lines) ≡ true
  numbered roles = list_all-from_AllPass (has_numbers_below (length final) roles) (map (axiom_of names final) lines)
      (All-map (λ (x : Axiom). has_numbers_below (length final) roles x ≡ true) (axiom_of names final) lines
      (All-weaker (Contains lines) (λ (st : Statement). has_numbers_below (length final) roles (axiom_of names final st) ≡ true)
      (λ st at. numbered_line roles st (right st at)) lines (All-contains_itself lines)))

  -- ---- what is so is entailed

  abbrev pub axioms : List Axiom
  axioms = map (axiom_of names final) lines

  abbrev Follows : ℕ → ℕ → Type 0
  Follows a b = Entails axioms (number_of a) (number_of b)

  holds : (st : Statement) → Contains lines st → (i : Interpretation) → IsModel axioms i → Holds i (axiom_of names final st)
  holds st at i model = All-contains (Holds i) axioms (axiom_of names final st) model (Contains-map (axiom_of names final) lines st at)

  same_members : (c d : ℕ) (more : List ℕ) → Contains lines (Same c d more) → (a b : ℕ) → Contains (c ∷ d ∷ more) a → Contains (c ∷ d ∷ more) b
      → (i : Interpretation) → IsModel axioms i → HasSameMembers i (named names final a) (named names final b)
  same_members c d more at a b a_at b_at i model =
      let all : List Expr = map (named names final) (c ∷ d ∷ more) in
      let every : EveryTwo (HasSameMembers i) all = holds (Same c d more) at i model in
      All-contains (HasSameMembers i (named names final a)) all (named names final b)
      (All-contains (λ (x : Expr). All (HasSameMembers i x) all) all (named names final a) every (Contains-map (named names final) (c ∷ d ∷ more) a a_at))
      (Contains-map (named names final) (c ∷ d ∷ more) b b_at)

  follows_in_group : (r a : ℕ) → Contains (representatives names below) r → 1 < length (members names below r) → Contains (members names below r) a → Follows r a × Follows a r
  follows_in_group r a at many a_at =
      let line = group_line r (members names below r) refl at many in
      let listed : (b : ℕ) → Contains (members names below r) b → Contains (line.0 ∷ line.1 ∷ line.2) b = λ b b_at. subst (λ (xs : List ℕ). Contains xs b) line.4 b_at in
      let r_at = listed r (0, omega (arith, many), refl) in (
        λ i model. (same_members line.0 line.1 line.2 line.3 r a r_at (listed a a_at) i model).0,
        λ i model. (same_members line.0 line.1 line.2 line.3 r a r_at (listed a a_at) i model).1,
      )

  pub entailed : (a b : ℕ) → a < length names → b < length names → below a b ≡ true → Entails axioms (number_of a) (number_of b)
  entailed = connected names below known s two Follows
      (λ a i model x inside h. h)
      (λ a b c first second i model x inside h. second i model x inside (first i model x inside h))
      (λ d d_in i model x inside h.
      let h' : member i (Name 1) x ≡ true = subst (λ (k : ℕ). member i (Name k) x ≡ true) number_of_nothing h in
      absurd (both_ways (member i (Name 1) x) (member-Name i x 1) h'))
      follows_in_group
      (λ r d at parent i model. holds (Sub r d) (parent_line r d at parent) i model)

  -- ---- what is entailed is so

  -- one element, in the classes above a
  module _ (a : ℕ) (a_in : a < length names) (apart : below a 1 ≡ false) where
    abbrev above : List ℕ
    above = filter (below a) (range_with_len 0 (length names))

    abbrev pair : ℕ → Member
    pair c = record { class = number_of c; element = 0 }

    abbrev one : Interpretation
    one = record {
      size = 1;
      classes = map pair above;
      roles = [];
      inhabited = omega arith;
      members = All-map (λ (m : Member). m.element < 1) pair above (λ k d inside. omega arith);
      sources = All-nil (λ (e : Edge). e.source < 1);
      targets = All-nil (λ (e : Edge). e.target < 1);
    }

    -- its classes are those above a
    has_above : (b : ℕ) → b < length names → below a b ≡ true → class_has one (number_of b) 0 ≡ true
    has_above b b_in up =
        let other : number_of b ≢ 1
        = λ is. both_ways (below a b) (subst (λ x. below a x ≡ false) (sym (same_class b 1 b_in two (is ∙ sym number_of_nothing))) apart) up in
        let at = Contains-map pair above b (Contains-filter (below a) (range_with_len 0 (length names)) b (range_contains (length names) b b_in) up) in
        let listed : list_any (λ (m : Member). m.class == number_of b && m.element == 0) (map pair above) ≡ true
        = list_any-from_Any (λ (m : Member). m.class == number_of b && m.element == 0) (map pair above)
        (at.0, pair b, at.1, at.2, and_from (number_of b == number_of b) (0 == 0) (eq-eqb (number_of b) (number_of b) refl) refl) in
        or_right (number_of b == 0) (not (number_of b == 1) && list_any (λ (m : Member). m.class == number_of b && m.element == 0) (map pair above))
        (and_from (not (number_of b == 1)) (list_any (λ (m : Member). m.class == number_of b && m.element == 0) (map pair above))
        (ap not (ne_eqb (number_of b) 1 other)) listed)

    above_from : (b : ℕ) → b < length names → class_has one (number_of b) 0 ≡ true → below a b ≡ true
    above_from b b_in h =
        elim (or_cases (number_of b == 0) (not (number_of b == 1) && list_any (λ (m : Member). m.class == number_of b && m.element == 0) (map pair above)) h) [
          | inl is ↦
              let zero_is : b ≡ 0 = same_class b 0 b_in (omega (arith, two)) (eqb-true (number_of b) 0 is ∙ sym number_of_thing) in
              subst (λ x. below a x ≡ true) (sym zero_is) (s.thing a a_in)
          | inr rest ↦
              let listed = (and_parts (not (number_of b == 1)) (list_any (λ (m : Member). m.class == number_of b && m.element == 0) (map pair above)) rest).1 in
              let found : Any (λ (m : Member). (m.class == number_of b && m.element == 0) ≡ true) (map pair above)
              = Any-from_list_any (λ (m : Member). m.class == number_of b && m.element == 0) (map pair above) listed in
              let from = Contains-from_map pair above found.1 (found.0, found.2, found.3) in
              let c : ℕ = from.0 in
              let c_in : c < length names
              = All-contains (λ x. x < length names) (range_with_len 0 (length names)) c (range_within (length names))
              (Contains-from_filter (below a) (range_with_len 0 (length names)) c from.1) in
              let numbers : number_of c ≡ number_of b
              = ap (λ (m : Member). m.class) from.2 ∙ eqb-true (found.1).class (number_of b) (and_parts ((found.1).class == number_of b) ((found.1).element == 0) found.4).0 in
              subst (λ x. below a x ≡ true) (same_class c b c_in b_in numbers) (passes_from_filter (below a) (range_with_len 0 (length names)) c from.1)
        ]

    below_in_one : (c d : ℕ) → c < length names → d < length names → below c d ≡ true → IsBelow one (named names final c) (named names final d)
    below_in_one c d c_in d_in up x lt h =
        let is : x ≡ 0 = omega arith in
        let in_c : class_has one (number_of c) 0 ≡ true = sym (member-Name one 0 (number_of c)) ∙ subst (λ y. member one (Name (number_of c)) y ≡ true) is h in
        let in_d : class_has one (number_of d) 0 ≡ true = has_above d d_in (s.transitive a c d a_in c_in d_in (above_from c c_in in_c) up) in
        subst (λ y. member one (Name (number_of d)) y ≡ true) (sym is) (member-Name one 0 (number_of d) ∙ in_d)

    holds_in_one : (st : Statement) → IsRight st → Holds one (axiom_of names final st)
    holds_in_one (Same c d more) r =
        let cs : List ℕ = c ∷ d ∷ more in
        let all : List Expr = map (named names final) cs in
        let inside : (x : ℕ) → Contains cs x → x < length names = λ x at. All-contains (λ y. y < length names) cs x r.within at in
        All-map (λ (x : Expr). All (HasSameMembers one x) all) (named names final) cs
        (All-weaker (Contains cs) (λ x. All (HasSameMembers one (named names final x)) all)
        (λ x x_at. All-map (HasSameMembers one (named names final x)) (named names final) cs
        (All-weaker (Contains cs) (λ y. HasSameMembers one (named names final x) (named names final y))
        (λ y y_at. (below_in_one x y (inside x x_at) (inside y y_at) (r.so x y x_at y_at), below_in_one y x (inside y y_at) (inside x x_at) (r.so y x y_at x_at)))
        cs (All-contains_itself cs)))
        cs (All-contains_itself cs))
    holds_in_one (Sub c d) r = below_in_one c d (All-contains (λ x. x < length names) (c ∷ d ∷ []) c r.within (0, omega arith, refl))
        (All-contains (λ x. x < length names) (c ∷ d ∷ []) d r.within (1, omega arith, refl)) r.so

    one_is_model : IsModel axioms one
    one_is_model = All-map (Holds one) (axiom_of names final) lines
        (All-weaker (Contains lines) (λ (st : Statement). Holds one (axiom_of names final st)) (λ st at. holds_in_one st (right st at)) lines (All-contains_itself lines))

    so_apart : (b : ℕ) → b < length names → Entails axioms (number_of a) (number_of b) → below a b ≡ true
    so_apart b b_in follows =
        let in_a : member one (Name (number_of a)) 0 ≡ true = member-Name one 0 (number_of a) ∙ has_above a a_in (s.reflexive a a_in) in
        above_from b b_in (sym (member-Name one 0 (number_of b)) ∙ follows one one_is_model 0 (omega arith) in_a)

  pub entailed_so : (a b : ℕ) → a < length names → b < length names → Entails axioms (number_of a) (number_of b) → below a b ≡ true
  entailed_so a b a_in b_in follows = elim (cases_Bool (below a 1)) [
    | inl none ↦ s.transitive a 1 b a_in two b_in none (s.nothing b b_in)
    | inr apart ↦ so_apart a a_in apart b b_in follows
  ]
