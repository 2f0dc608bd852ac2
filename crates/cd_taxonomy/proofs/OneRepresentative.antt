-- Of each group there is one representative.
use Rattle.std.proofs.Common.{◌≡◌, ℕ, ◌<◌, Bool, true, ◌==◌, if◌then◌else◌, List, [], ◌∷◌, length, refl, sym, ap, ◌∙◌, arith}
use Rattle.std.specs.List.{Contains}
use Rattle.std.proofs.lemmas.Bool.{and_parts, and_from, eqb-true, eq-eqb}
use Rattle.std.proofs.lemmas.List.Elements.{All-contains}
use Rattle.cd_meaning.specs.Hierarchy.{is_equivalent, first_or, group_of, representative, representatives, classes_in_order}
use Rattle.cd_taxonomy.specs.Relation.{IsSubsumption}
use Rattle.cd_taxonomy.proofs.NameOrder.{classes_within, classes_contain}
use Rattle.cd_taxonomy.proofs.Lists.{same_tests, filter_same, Contains-filter, Contains-from_filter, passes_from_filter}

first_same : (c d : ℕ) (xs : List ℕ) → Contains xs c → first_or c xs ≡ first_or d xs
first_same c d [] (k, within, at) = absurd (omega arith)
first_same c d (x ∷ xs) at = refl

module _ (names : List (List ℕ)) (below : ℕ → ℕ → Bool) where
  -- ---- the representatives are the classes that stand for themselves

  pub representative_in : (c : ℕ) → c < length names → representative names below c ≡ c → Contains (representatives names below) c
  representative_in c within own =
      Contains-filter (λ d. representative names below d == d) (classes_in_order names) c (classes_contain names c within) (eq-eqb (representative names below c) c own)

  pub in_representatives : (c : ℕ) → Contains (representatives names below) c → (c < length names) × (representative names below c ≡ c)
  in_representatives c at = (
    All-contains (λ d. d < length names) (classes_in_order names) c (classes_within names) (Contains-from_filter (λ d. representative names below d == d) (classes_in_order names) c at),
    eqb-true (representative names below c) c (passes_from_filter (λ d. representative names below d == d) (classes_in_order names) c at),
  )

  -- ---- equivalent classes have one representative

  module _ (s : IsSubsumption (length names) below) (two : 1 < length names) where
    pub group_has : (c : ℕ) → c < length names → Contains (group_of names below c) c
    group_has c c_in = Contains-filter (is_equivalent below c) (classes_in_order names) c
        (classes_contain names c c_in) (and_from (below c c) (below c c) (s.reflexive c c_in) (s.reflexive c c_in))

    module _ (c d : ℕ) (c_in : c < length names) (d_in : d < length names) (c_below : below c d ≡ true) (d_below : below d c ≡ true) where
      equivalent_same : (e : ℕ) → e < length names → is_equivalent below c e ≡ is_equivalent below d e
      equivalent_same e e_in = same_tests (is_equivalent below c e) (is_equivalent below d e)
          (λ h. let both = and_parts (below c e) (below e c) h in
          and_from (below d e) (below e d) (s.transitive d c e d_in c_in e_in d_below both.0) (s.transitive e c d e_in c_in d_in both.1 c_below))
          (λ h. let both = and_parts (below d e) (below e d) h in
          and_from (below c e) (below e c) (s.transitive c d e c_in d_in e_in c_below both.0) (s.transitive e d c e_in d_in c_in both.1 d_below))

      group_same : group_of names below c ≡ group_of names below d
      group_same = filter_same (is_equivalent below c) (is_equivalent below d) (classes_in_order names)
          (λ k e within. equivalent_same _ (classes_within names k e within))

      pub representative_same : representative names below c ≡ representative names below d
      representative_same =
          ap (λ t. if t then 1 else (if is_equivalent below c 0 then 0 else first_or c (group_of names below c))) (equivalent_same 1 two)
          ∙ ap (λ t. if is_equivalent below d 1 then 1 else (if t then 0 else first_or c (group_of names below c))) (equivalent_same 0 (omega arith))
          ∙ ap (λ x. if is_equivalent below d 1 then 1 else (if is_equivalent below d 0 then 0 else x))
          (first_same c d (group_of names below c) (group_has c c_in) ∙ ap (first_or d) group_same)

    pub one_representative : (c d : ℕ) → c < length names → d < length names → representative names below c ≡ c → representative names below d ≡ d
        → below c d ≡ true → below d c ≡ true → c ≡ d
    one_representative c d c_in d_in c_own d_own c_below d_below = sym c_own ∙ representative_same c d c_in d_in c_below d_below ∙ d_own
