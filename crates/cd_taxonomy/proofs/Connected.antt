-- What leads from class to class within the groups and to the direct superclasses leads from each class to all above it.
use Rattle.std.proofs.Common.{◌≡◌, ◌≢◌, ◌⊎◌, ℕ, zero, suc, ◌+◌, ◌<◌, ◌≤◌, Bool, true, false, not, ◌&&◌, ◌==◌, List, length, filter, sym, ap, subst, ◌∙◌, arith, inl, inr}
use Rattle.std.specs.List.{Any, Contains, list_any}
use Rattle.std.proofs.lemmas.Bool.{and_parts, and_from, both_ways, cases_Bool, cases_eq, cond-true, le-ltb, ne_eqb, not-true}
use Rattle.std.proofs.lemmas.List.Elements.{All-weaker, All-contains_itself}
use Rattle.std.proofs.lemmas.List.Folds.{Any-from_list_any, list_any_none}
use Rattle.cd_meaning.specs.Hierarchy.{classes_in_order, is_equivalent, is_strictly_below, is_reserved, group_of, representative, representatives, members, has_between, is_parent, parents, proper}
use Rattle.cd_taxonomy.specs.Relation.{IsSubsumption}
use Rattle.cd_taxonomy.specs.ReadBack.{AreNames}
use Rattle.cd_taxonomy.proofs.SuperclassCounts.{count, count_less}
use Rattle.cd_taxonomy.proofs.NameOrder.{classes_contain}
use Rattle.cd_taxonomy.proofs.OneRepresentative.{in_representatives, one_representative}
use Rattle.cd_taxonomy.proofs.Lists.{Contains-filter}
use Rattle.cd_taxonomy.proofs.ReadBackGroups.{stands, represented}
use Rattle.cd_taxonomy.proofs.ReadBackSound.{in_members}

module _ (names : List (List ℕ)) (below : ℕ → ℕ → Bool) (known : AreNames names) (s : IsSubsumption (length names) below) (two : 1 < length names)
    (R : ℕ → ℕ → Type 0) (itself : (a : ℕ) → R a a) (on : (a b c : ℕ) → R a b → R b c → R a c)
    (nothing : (d : ℕ) → d < length names → R 1 d)
    (grouped : (r a : ℕ) → Contains (representatives names below) r → 1 < length (members names below r) → Contains (members names below r) a → R r a × R a r)
    (linked : (r d : ℕ) → Contains (proper names below) r → Contains (parents names below r) d → R r d) where
  equal : (a b : ℕ) → a ≡ b → R a b
  equal a b same = subst (R a) same (itself a)

  -- ---- a class and its representative

  with_representative : (a r : ℕ) → a < length names → Contains (representatives names below) r → is_equivalent below r a ≡ true → R a r × R r a
  with_representative a r a_in at equivalent = elim (cases_eq a r) [
    | inl same ↦ (equal a r same, equal r a (sym same))
    | inr other ↦
        let r_in = (in_representatives names below r at).0 in
        let in_group : Contains (group_of names below r) a = Contains-filter (is_equivalent below r) (classes_in_order names) a (classes_contain names a a_in) equivalent in
        let later : Contains (filter (λ c. not (c == r)) (group_of names below r)) a
        = Contains-filter (λ c. not (c == r)) (group_of names below r) a in_group (ap not (ne_eqb a r other)) in
        let a_at : Contains (members names below r) a = (suc later.0, omega (arith, later.1), later.2) in
        let both = grouped r a at (omega (arith, later.1)) a_at in
        (both.1, both.0)
  ]

  -- ---- from representative to representative

  -- one that is strictly above r and strictly below d
  abbrev IsBetween : ℕ → ℕ → ℕ → Type 0
  IsBetween r d e = Contains (representatives names below) e × (below r e ≡ true) × (below e r ≡ false) × (below e d ≡ true) × (below d e ≡ false)

  module _ (r d : ℕ) (r_at : Contains (representatives names below) r) (d_at : Contains (representatives names below) d)
      (up : below r d ≡ true) (apart : below d r ≡ false) where
    r_is : (r < length names) × (representative names below r ≡ r)
    r_is = in_representatives names below r r_at

    d_is : (d < length names) × (representative names below d ≡ d)
    d_is = in_representatives names below d d_at

    -- owl:Thing is not in the group of what has a class strictly above
    not_thing : below 0 r ≡ true → ⊥
    not_thing h = both_ways (below d r) apart (s.transitive d 0 r d_is.0 (omega arith) r_is.0 (s.thing d d_is.0) h)

    -- owl:Nothing represents its group
    is_nothing : below r 1 ≡ true → r ≡ 1
    is_nothing h = sym r_is.1 ∙ cond-true (is_equivalent below r 1) 1 _ (and_from (below r 1) (below 1 r) h (s.nothing r r_is.0))

    is_proper : r ≢ 1 → Contains (proper names below) r
    is_proper other = Contains-filter (λ t. not (list_any is_reserved (members names below t))) (representatives names below) r r_at
        (ap not (list_any_none is_reserved (members names below r)
        (All-weaker (Contains (members names below r)) (λ c. is_reserved c ≡ false)
        (λ c at.
        let c_is = in_members names below known s r c r_at at in
        let not_zero : c ≢ 0 = λ is. not_thing (subst (λ x. below x r ≡ true) is c_is.2) in
        let not_one : c ≢ 1 = λ is. other (is_nothing (subst (λ x. below r x ≡ true) is c_is.1)) in
        le-ltb c 2 (omega arith))
        (members names below r) (All-contains_itself (members names below r)))))

    direct_or_between : R r d ⊎ ((e : ℕ) × IsBetween r d e)
    direct_or_between = elim (cases_eq r 1) [
      | inl is_one ↦ inl (subst (λ x. R x d) (sym is_one) (nothing d d_is.0))
      | inr other ↦ elim (cases_Bool (has_between names below r d)) [
        | inl some ↦
            let found : Any (λ e. (is_strictly_below below r e && is_strictly_below below e d) ≡ true) (representatives names below)
            = Any-from_list_any (λ e. is_strictly_below below r e && is_strictly_below below e d) (representatives names below) some in
            let e = found.1 in
            let both = and_parts (is_strictly_below below r e) (is_strictly_below below e d) found.4 in
            let low = and_parts (below r e) (not (below e r)) both.0 in
            let high = and_parts (below e d) (not (below d e)) both.1 in
            inr (e, ((found.0, found.2, found.3), low.0, not-true (below e r) low.1, high.0, not-true (below d e) high.1))
        | inr none ↦
            let strictly : is_strictly_below below r d ≡ true = and_from (below r d) (not (below d r)) up (ap not apart) in
            let parent : Contains (parents names below r) d
            = Contains-filter (is_parent names below r) (representatives names below) d
            d_at (and_from (is_strictly_below below r d) (not (has_between names below r d)) strictly (ap not none)) in
            inl (linked r d (is_proper other) parent)
      ]
    ]

  abbrev size : ℕ → ℕ
  size = count (length names) below

  in_range : (e : ℕ) → Contains (representatives names below) e → e < length names
  in_range e at = (in_representatives names below e at).0

  same_group : (r d : ℕ) → Contains (representatives names below) r → Contains (representatives names below) d → below r d ≡ true → below d r ≡ true → R r d
  same_group r d r_at d_at up back =
      let r_is = in_representatives names below r r_at in
      let d_is = in_representatives names below d d_at in
      equal r d (one_representative names below s two r d r_is.0 d_is.0 r_is.1 d_is.1 up back)

  -- r has at most m superclasses more than d
  between_representatives : (m r d : ℕ) → Contains (representatives names below) r → Contains (representatives names below) d → below r d ≡ true
      → size r ≤ size d + m → R r d
  between_representatives zero r d r_at d_at up near = elim (cases_Bool (below d r)) [
    | inl back ↦ same_group r d r_at d_at up back
    | inr apart ↦ absurd (omega (arith, count_less s r d (in_range r r_at) (in_range d d_at) up apart))
  ]
  between_representatives (suc m) r d r_at d_at up near = elim (cases_Bool (below d r)) [
    | inl back ↦ same_group r d r_at d_at up back
    | inr apart ↦ elim (direct_or_between r d r_at d_at up apart) [
      | inl up_to ↦ up_to
      | inr found ↦
          let e = found.0 in
          let is : IsBetween r d e = found.1 in
          let less : size e < size r = count_less s r e (in_range r r_at) (in_range e is.0) is.1 is.2 in
          let more : size d < size e = count_less s e d (in_range e is.0) (in_range d d_at) is.3 is.4 in
          on r e d
          (between_representatives m r e r_at is.0 is.1 (omega arith))
          (between_representatives m e d is.0 d_at is.3 (omega arith))
    ]
  ]

  -- ---- from class to class

  pub connected : (a b : ℕ) → a < length names → b < length names → below a b ≡ true → R a b
  connected a b a_in b_in up =
      let r = representative names below a in
      let d = representative names below b in
      let r_is = stands names below s two a a_in in
      let d_is = stands names below s two b b_in in
      let r_at = represented names below s two a a_in in
      let d_at = represented names below s two b b_in in
      let with_r = and_parts (below a r) (below r a) r_is.1 in
      let with_d = and_parts (below b d) (below d b) d_is.1 in
      let between : below r d ≡ true = s.transitive r a d r_is.0 a_in d_is.0 with_r.1 (s.transitive a b d a_in b_in d_is.0 up with_d.0) in
      on a r b
      (with_representative a r a_in r_at (and_from (below r a) (below a r) with_r.1 with_r.0)).0
      (on r d b
      (between_representatives (size r) r d r_at d_at between (omega arith))
      (with_representative b d b_in d_at (and_from (below d b) (below b d) with_d.1 with_d.0)).1)
