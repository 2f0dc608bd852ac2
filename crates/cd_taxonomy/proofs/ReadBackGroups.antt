-- The representative of a class is equivalent to it, and stands for itself.
use Rattle.std.proofs.Common.{◌≡◌, ℕ, ◌<◌, Bool, true, if◌then◌else◌, List, [], ◌∷◌, length, refl, sym, arith}
use Rattle.std.specs.List.{Contains}
use Rattle.std.proofs.lemmas.Bool.{and_parts, cond_both}
use Rattle.std.proofs.lemmas.List.Elements.{All-contains}
use Rattle.cd_meaning.specs.Hierarchy.{is_equivalent, first_or, group_of, representative, representatives, classes_in_order}
use Rattle.cd_taxonomy.specs.Relation.{IsSubsumption}
use Rattle.cd_taxonomy.proofs.NameOrder.{classes_within}
use Rattle.cd_taxonomy.proofs.OneRepresentative.{representative_in, group_has, representative_same}
use Rattle.cd_taxonomy.proofs.Lists.{Contains-from_filter, passes_from_filter}

first_in : (c e : ℕ) (xs : List ℕ) → Contains xs e → Contains xs (first_or c xs)
first_in c e [] at = absurd (omega (arith, at.1))
first_in c e (x ∷ xs) at = (0, omega arith, refl)

module _ (names : List (List ℕ)) (below : ℕ → ℕ → Bool) (s : IsSubsumption (length names) below) (two : 1 < length names) where
  -- ---- a class and its representative are equivalent

  pub stands : (c : ℕ) → c < length names → (representative names below c < length names) × (is_equivalent below c (representative names below c) ≡ true)
  stands c c_in =
      let P : ℕ → Type 0 = λ r. (r < length names) × (is_equivalent below c r ≡ true) in
      let first : ℕ = first_or c (group_of names below c) in
      let at : Contains (group_of names below c) first = first_in c c (group_of names below c) (group_has names below s two c c_in) in
      cond_both (is_equivalent below c 1) 1 (if is_equivalent below c 0 then 0 else first) P
      (λ with_nothing. (two, with_nothing))
      (λ _. cond_both (is_equivalent below c 0) 0 first P
      (λ with_thing. (omega arith, with_thing))
      (λ _. (
        All-contains (λ d. d < length names) (classes_in_order names) first (classes_within names) (Contains-from_filter (is_equivalent below c) (classes_in_order names) first at),
        passes_from_filter (is_equivalent below c) (classes_in_order names) first at,
      )))

  pub represented : (c : ℕ) → c < length names → Contains (representatives names below) (representative names below c)
  represented c c_in =
      let r = stands c c_in in
      let both = and_parts (below c (representative names below c)) (below (representative names below c) c) r.1 in
      representative_in names below (representative names below c) r.0 (sym (representative_same names below s two c (representative names below c) c_in r.0 both.0 both.1))
