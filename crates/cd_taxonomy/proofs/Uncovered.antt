-- Classes gone through in order: what one more does, and that one is covered by those taken exactly if it is by any before it.
use Rattle.std.proofs.Common.{◌≡◌, ℕ, zero, suc, ◌+◌, ◌<◌, ◌≤◌, Bool, true, false, not, cond, ◌||◌, List, [], ◌∷◌, ◌++◌, length, map, filter, take, get_or, refl, sym, ap, ◌∙◌, arith, inl, inr, add-one, append-nil}
use Rattle.std.specs.List.{list_any, fold}
use Rattle.std.proofs.lemmas.Bool.{or_cases, or_left, or_right, cases_Bool, cond-true, cond-false}
use Rattle.std.proofs.lemmas.List.{map_more, take_all}
use Rattle.std.proofs.lemmas.List.Elements.{filter_more}
use Rattle.std.proofs.lemmas.List.Folds.{list_any-append}
use Rattle.std.proofs.lemmas.List.Sums.{fold_push, fold_more}
use Rattle.cd_taxonomy.specs.declared.parents.Candidate.{Candidate}
use Rattle.cd_taxonomy.specs.Covered.{class_of, add_uncovered, uncovered}

or_false : (a : Bool) → (a || false) ≡ a
or_false true = refl
or_false false = refl

or_assoc : (a b c : Bool) → ((a || b) || c) ≡ (a || (b || c))
or_assoc true b c = refl
or_assoc false b c = refl

-- what is true of the second is true of the first
or_absorbs : (a b c : Bool) → (b ≡ true → a ≡ true) → (a || c) ≡ (a || (b || c))
or_absorbs true b c h = refl
or_absorbs false true c h = ap (λ x. x || c) (h refl)
or_absorbs false false c h = refl

module _ (cover : ℕ → ℕ → Bool) where
  -- one of these classes covers b
  abbrev pub is_covered : List ℕ → ℕ → Bool
  is_covered found b = list_any (λ c. cover c b) found

  pub covered_push : (found : List ℕ) (d b : ℕ) → is_covered (found ++ d ∷ []) b ≡ (is_covered found b || cover d b)
  covered_push found d b = list_any-append (λ c. cover c b) found (d ∷ []) ∙ ap (λ x. is_covered found b || x) (or_false (cover d b))

  -- ---- one more class, as at a step of a loop

  module _ (cs : List Candidate) (i : ℕ) (candidate : Candidate) (within : i < length cs) where
    uncovered_more : uncovered cover (map class_of (take (i + 1) cs)) ≡ add_uncovered cover (uncovered cover (map class_of (take i cs))) (class_of (get_or cs i candidate))
    uncovered_more =
        ap (uncovered cover) (map_more class_of cs i candidate within)
        ∙ fold_push (add_uncovered cover) [] (map class_of (take i cs)) (class_of (get_or cs i candidate))

    pub uncovered_passed : (found : List ℕ) → found ≡ uncovered cover (map class_of (take i cs))
        → is_covered found (class_of (get_or cs i candidate)) ≡ true → found ≡ uncovered cover (map class_of (take (i + 1) cs))
    uncovered_passed found so_far covered =
        let d = class_of (get_or cs i candidate) in
        sym (uncovered_more ∙ ap (λ (xs : List ℕ). add_uncovered cover xs d) (sym so_far) ∙ cond-true (is_covered found d) found (found ++ d ∷ []) covered)

    pub uncovered_taken : (found : List ℕ) → found ≡ uncovered cover (map class_of (take i cs))
        → is_covered found (class_of (get_or cs i candidate)) ≡ false
        → found ++ class_of (get_or cs i candidate) ∷ [] ≡ uncovered cover (map class_of (take (i + 1) cs))
    uncovered_taken found so_far free =
        let d = class_of (get_or cs i candidate) in
        sym (uncovered_more ∙ ap (λ (xs : List ℕ). add_uncovered cover xs d) (sym so_far) ∙ cond-false (is_covered found d) found (found ++ d ∷ []) free)

  -- ---- the classes that are taken cover what all of them cover

  module _ (transitive : (a b c : ℕ) → cover a b ≡ true → cover b c ≡ true → cover a c ≡ true) where
    covered_on : (found : List ℕ) (d b : ℕ) → is_covered found d ≡ true → cover d b ≡ true → is_covered found b ≡ true
    covered_on [] d b h k = h
    covered_on (c ∷ found) d b h k = elim (or_cases (cover c d) (is_covered found d) h) [
      | inl here ↦ or_left (cover c b) (is_covered found b) (transitive c d b here k)
      | inr later ↦ or_right (cover c b) (is_covered found b) (covered_on found d b later k)
    ]

    covered_by_step : (found : List ℕ) (d b : ℕ) (more : Bool)
        → (is_covered (add_uncovered cover found d) b || more) ≡ (is_covered found b || (cover d b || more))
    covered_by_step found d b more = elim (cases_Bool (is_covered found d)) [
      | inl covered ↦ ap (λ (xs : List ℕ). is_covered xs b || more) (cond-true (is_covered found d) found (found ++ d ∷ []) covered)
          ∙ or_absorbs (is_covered found b) (cover d b) more (covered_on found d b covered)
      | inr free ↦ ap (λ (xs : List ℕ). is_covered xs b || more) (cond-false (is_covered found d) found (found ++ d ∷ []) free)
          ∙ ap (λ x. x || more) (covered_push found d b) ∙ or_assoc (is_covered found b) (cover d b) more
    ]

    covered_by_all : (found order : List ℕ) (b : ℕ) → is_covered (fold (add_uncovered cover) found order) b ≡ (is_covered found b || is_covered order b)
    covered_by_all found [] b = sym (or_false (is_covered found b))
    covered_by_all found (d ∷ more) b =
        covered_by_all (add_uncovered cover found d) more b ∙ covered_by_step found d b (is_covered more b)

    -- where a class passes p exactly if none before it covers it, those taken are those that pass p
    module _ (p : ℕ → Bool) (order : List ℕ)
        (decides : (k : ℕ) → k < length order → is_covered (take k order) (get_or order k 0) ≡ not (p (get_or order k 0))) where
      taken_one : (xs : List ℕ) (d : ℕ) (t : Bool) → t ≡ not (p d) → cond t xs (xs ++ d ∷ []) ≡ xs ++ cond (p d) (d ∷ []) []
      taken_one xs d t e = ap (λ s. cond s xs (xs ++ d ∷ [])) e
          ∙ elim (p d) as (λ s. cond (not s) xs (xs ++ d ∷ []) ≡ xs ++ cond s (d ∷ []) []) [ true ↦ refl | false ↦ sym (append-nil xs) ]

      taken_by : (k : ℕ) → k ≤ length order → uncovered cover (take k order) ≡ filter p (take k order)
      taken_by zero h = refl
      taken_by (suc k) h =
          let d = get_or order k 0 in
          let within : k < length order = omega arith in
          let free : is_covered (uncovered cover (take k order)) d ≡ not (p d) = covered_by_all [] (take k order) d ∙ decides k within in
          ap (λ i. uncovered cover (take i order)) (sym (add-one k))
          ∙ fold_more (add_uncovered cover) [] order k 0 within
          ∙ taken_one (uncovered cover (take k order)) d (is_covered (uncovered cover (take k order)) d) free
          ∙ ap (λ xs. xs ++ cond (p d) (d ∷ []) []) (taken_by k (omega arith))
          ∙ sym (filter_more p order k 0 within)
          ∙ ap (λ i. filter p (take i order)) (add-one k)

      pub uncovered_are : uncovered cover order ≡ filter p order
      uncovered_are = ap (uncovered cover) (sym (take_all (length order) order (omega arith))) ∙ taken_by (length order) (omega arith)
          ∙ ap (filter p) (take_all (length order) order (omega arith))
