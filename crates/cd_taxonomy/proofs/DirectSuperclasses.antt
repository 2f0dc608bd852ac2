-- Of the groups above a class, in an order in which one with more superclasses comes first, the direct ones are those that no earlier one covers.
use Rattle.std.proofs.Common.{◌≡◌, ◌≢◌, ℕ, ◌<◌, ◌≤◌, Bool, true, false, not, ◌&&◌, List, length, take, filter, get_or, refl, sym, ap, ◌∙◌, arith, inl, inr}
use Rattle.std.specs.List.{All, AllPairs, Any, Contains}
use Rattle.std.proofs.lemmas.Bool.{and_parts, and_from, cases_lt, cases_eq, false_from_ne_true, not-true}
use Rattle.std.proofs.lemmas.List.{get_or-take, length-take-le, get_or_default}
use Rattle.std.proofs.lemmas.List.Folds.{Any-from_list_any, list_any-from_Any}
use Rattle.cd_meaning.specs.Hierarchy.{is_strictly_below, has_between, is_parent, representative, representatives}
use Rattle.cd_taxonomy.specs.Relation.{IsSubsumption}
use Rattle.cd_taxonomy.specs.Covered.{uncovered}
use Rattle.cd_taxonomy.proofs.SuperclassCounts.{count, count_less}
use Rattle.cd_taxonomy.proofs.Lists.{same_tests}
use Rattle.cd_taxonomy.proofs.OneRepresentative.{representative_in, in_representatives, one_representative}
use Rattle.cd_taxonomy.proofs.Uncovered.{is_covered, uncovered_are}

not_not : (b : Bool) → not (not b) ≡ b
not_not true = refl
not_not false = refl

strictly : (below : ℕ → ℕ → Bool) (c d : ℕ) → below c d ≡ true → below d c ≡ false → is_strictly_below below c d ≡ true
strictly below c d up down = and_from (below c d) (not (below d c)) up (ap not down)

pub strictly_parts : (below : ℕ → ℕ → Bool) (c d : ℕ) → is_strictly_below below c d ≡ true → (below c d ≡ true) × (below d c ≡ false)
strictly_parts below c d h = let both = and_parts (below c d) (not (below d c)) h in (both.0, not-true (below d c) both.1)

-- d stands for a group that is strictly above r
pub record IsAbove (names : List (List ℕ)) (below : ℕ → ℕ → Bool) (r d : ℕ) : Type 0 where
  pub within : d < length names
  pub above : below r d ≡ true
  pub apart : below d r ≡ false
  pub own : representative names below d ≡ d

-- the groups that are strictly above r, each once, those with most superclasses first
pub record IsInOrder (names : List (List ℕ)) (below : ℕ → ℕ → Bool) (r : ℕ) (order : List ℕ) : Type 0 where
  pub above : All (IsAbove names below r) order
  pub complete : (d : ℕ) → IsAbove names below r d → Contains order d
  pub distinct : AllPairs (λ c d. c ≢ d) order
  pub falling : AllPairs (λ c d. count (length names) below d ≤ count (length names) below c) order

module _ (names : List (List ℕ)) (below : ℕ → ℕ → Bool) (s : IsSubsumption (length names) below) (two : 1 < length names) (r : ℕ) (order : List ℕ)
    (o : IsInOrder names below r order) (cover : ℕ → ℕ → Bool) (agrees : (c d : ℕ) → IsAbove names below r c → cover c d ≡ below c d) where
  abbrev Between : ℕ → ℕ → Bool
  Between d e = is_strictly_below below r e && is_strictly_below below e d

  module _ (k : ℕ) (within : k < length order) where
    abbrev here : ℕ
    here = get_or order k 0

    is_here : IsAbove names below r here
    is_here = o.above k 0 within

    -- an earlier one that covers this one is between
    between_from_earlier : (i : ℕ) → i < k → cover (get_or order i 0) here ≡ true → has_between names below r here ≡ true
    between_from_earlier i earlier covers =
        let e = get_or order i 0 in
        let is_e : IsAbove names below r e = o.above i 0 (omega arith) in
        let up : below e here ≡ true = sym (agrees e here is_e) ∙ covers in
        let down : below here e ≡ false
        = false_from_ne_true (below here e) (λ back. o.distinct i k 0 earlier within (one_representative names below s two e here (is_e.within) (is_here.within) (is_e.own) (is_here.own) up back)) in
        let at = representative_in names below e (is_e.within) (is_e.own) in
        list_any-from_Any (Between here) (representatives names below)
        (at.0, e, at.1, at.2, and_from (is_strictly_below below r e) (is_strictly_below below e here) (strictly below r e (is_e.above) (is_e.apart)) (strictly below e here up down))

    -- one between comes earlier
    earlier_from_between : (e : ℕ) → Contains (representatives names below) e → Between here e ≡ true → (i : ℕ) × (i < k) × (get_or order i 0 ≡ e) × (cover e here ≡ true)
    earlier_from_between e at between =
        let both = and_parts (is_strictly_below below r e) (is_strictly_below below e here) between in
        let low = strictly_parts below r e both.0 in
        let high = strictly_parts below e here both.1 in
        let is = in_representatives names below e at in
        let is_e : IsAbove names below r e = record { within = is.0; above = low.0; apart = low.1; own = is.1 } in
        let place = o.complete e is_e in
        let at_place : get_or order (place.0) 0 ≡ e = get_or_default order (place.0) 0 e place.1 ∙ place.2 in
        let more : count (length names) below here < count (length names) below e = count_less s e here (is.0) (is_here.within) high.0 high.1 in
        let earlier : place.0 < k
        = elim (cases_lt (place.0) k) [
          | inl before ↦ before
          | inr later ↦ elim (cases_eq k (place.0)) [
            | inl same ↦ let equal : here ≡ e = ap (λ j. get_or order j 0) same ∙ at_place in
                absurd (omega (arith, ap (count (length names) below) equal))
            | inr apart ↦ absurd (omega (arith, ap (count (length names) below) at_place, o.falling k (place.0) 0 (omega arith) place.1))
          ]
        ] in
        (place.0, earlier, at_place, agrees e here is_e ∙ high.0)

    covered_is_between : is_covered cover (take k order) here ≡ has_between names below r here
    covered_is_between = same_tests (is_covered cover (take k order) here) (has_between names below r here)
        (λ h.
        let found : Any (λ c. cover c here ≡ true) (take k order) = Any-from_list_any (λ c. cover c here) (take k order) h in
        let earlier : found.0 < k = omega (arith, length-take-le k order (omega arith)) in
        let at : get_or order (found.0) 0 ≡ found.1
        = get_or_default order (found.0) 0 found.1 (omega arith) ∙ sym (get_or-take k order (found.0) found.1 earlier) ∙ found.3 in
        between_from_earlier (found.0) earlier (ap (λ c. cover c here) at ∙ found.4))
        (λ h.
        let found : Any (λ e. Between here e ≡ true) (representatives names below) = Any-from_list_any (Between here) (representatives names below) h in
        let e = found.1 in
        let place = earlier_from_between e (found.0, found.2, found.3) found.4 in
        list_any-from_Any (λ c. cover c here) (take k order) (
          place.0,
          e,
          omega (arith, place.1, length-take-le k order (omega arith)),
          get_or-take k order (place.0) e place.1 ∙ get_or_default order (place.0) e 0 (omega (arith, place.1)) ∙ place.2,
          place.3,
        ))

    decides : is_covered cover (take k order) here ≡ not (is_parent names below r here)
    decides = covered_is_between ∙ sym (not_not (has_between names below r here))
        ∙ ap (λ t. not (t && not (has_between names below r here))) (sym (strictly below r here (is_here.above) (is_here.apart)))

  pub uncovered_are_parents : ((a b c : ℕ) → cover a b ≡ true → cover b c ≡ true → cover a c ≡ true) → uncovered cover order ≡ filter (is_parent names below r) order
  uncovered_are_parents transitive = uncovered_are cover transitive (is_parent names below r) order decides
