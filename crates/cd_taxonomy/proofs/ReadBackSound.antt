-- All that is read in a printed taxonomy is so.
use Rattle.std.proofs.Common.{◌≡◌, ℕ, zero, suc, ◌<◌, Bool, true, not, ◌==◌, List, length, sym, ap, subst, ◌∙◌, arith, inl, inr, length-take}
use Rattle.std.specs.Prelude.{codes}
use Rattle.std.specs.List.{All, Contains, list_any}
use Rattle.std.proofs.lemmas.Bool.{and_parts}
use Rattle.std.proofs.lemmas.List.Elements.{All-contains, All-weaker, All-contains_itself}
use Rattle.cd_meaning.specs.Hierarchy.{classes_in_order, is_equivalent, is_strictly_below, is_reserved, group_of, representatives, members, has_between, is_parent, parents, proper}
use Rattle.cd_meaning.specs.Text.{equivalent_line, subclass_line, text}
use Rattle.cd_meaning.specs.Reading.{HasLine, Shows, ShowsInSteps}
use Rattle.cd_taxonomy.specs.Relation.{IsSubsumption}
use Rattle.cd_taxonomy.specs.ReadBack.{AreNames}
use Rattle.cd_taxonomy.proofs.NameOrder.{classes_within}
use Rattle.cd_taxonomy.proofs.OneRepresentative.{in_representatives}
use Rattle.cd_taxonomy.proofs.Lists.{Contains-from_filter, passes_from_filter}
use Rattle.cd_taxonomy.proofs.ReadBackLines.{line_shown}
use Rattle.cd_taxonomy.proofs.ReadBackIris.{listed_in_group, same_subclass, apart_at_start}

pub two_names : (names : List (List ℕ)) → AreNames names → 1 < length names
two_names names known = omega (arith, length-take 2 names, ap length known.reserved)

module _ (names : List (List ℕ)) (below : ℕ → ℕ → Bool) (known : AreNames names) (s : IsSubsumption (length names) below) where
  -- ---- groups and direct superclasses

  -- a member is a class that is equivalent to the representative
  pub in_members : (r c : ℕ) → Contains (representatives names below) r → Contains (members names below r) c → (c < length names) × (below r c ≡ true) × (below c r ≡ true)
  in_members r c at (zero, inside, is) =
      let r_in = (in_representatives names below r at).0 in
      (subst (λ x. x < length names) is r_in, subst (λ x. below r x ≡ true) is (s.reflexive r r_in), subst (λ x. below x r ≡ true) is (s.reflexive r r_in))
  in_members r c at (suc k, inside, is) =
      let listed : Contains (group_of names below r) c = Contains-from_filter (λ d. not (d == r)) (group_of names below r) c (k, omega arith, is) in
      let both = and_parts (below r c) (below c r) (passes_from_filter (is_equivalent below r) (classes_in_order names) c listed) in
      (All-contains (λ d. d < length names) (classes_in_order names) c (classes_within names) (Contains-from_filter (is_equivalent below r) (classes_in_order names) c listed), both.0, both.1)

  members_within : (r : ℕ) → Contains (representatives names below) r → All (λ c. c < length names) (members names below r)
  members_within r at = All-weaker (Contains (members names below r)) (λ c. c < length names) (λ c h. (in_members r c at h).0)
      (members names below r) (All-contains_itself (members names below r))

  pub proper_represents : (r : ℕ) → Contains (proper names below) r → Contains (representatives names below) r
  proper_represents r at = Contains-from_filter (λ t. not (list_any is_reserved (members names below t))) (representatives names below) r at

  pub in_parents : (r d : ℕ) → Contains (parents names below r) d → (d < length names) × (below r d ≡ true)
  in_parents r d at =
      let strictly = (and_parts (is_strictly_below below r d) (not (has_between names below r d)) (passes_from_filter (is_parent names below r) (representatives names below) d at)).0 in (
        (in_representatives names below d (Contains-from_filter (is_parent names below r) (representatives names below) d at)).0,
        (and_parts (below r d) (not (below d r)) strictly).0,
      )

  -- ---- what a line says

  subclass_so : (a c : ℕ) → a < length names → c < length names → HasLine (text names below) (subclass_line names a c) → below a c ≡ true
  subclass_so a c a_in c_in h =
      elim (line_shown names (representatives names below) (members names below) (proper names below) (parents names below) known.iris (subclass_line names a c) h) [
        | inl first ↦ absurd (apart_at_start (subclass_line names a c) (codes "Ontology(") (λ same. let no : 83 ≡ 79 = same in absurd (omega arith)) first)
        | inr (inl group) ↦
            absurd (apart_at_start (subclass_line names a c) (equivalent_line names (members names below (group.0))) (λ same. let no : 83 ≡ 69 = same in absurd (omega arith)) group.2)
        | inr (inr (inl link)) ↦
            let d_at = in_parents (link.0) (link.1) link.3 in
            let r_in = (in_representatives names below (link.0) (proper_represents (link.0) link.2)).0 in
            let both = same_subclass names known.iris known.distinct a c (link.0) (link.1) a_in c_in r_in d_at.0 link.4 in
            ap (λ x. below x c) both.0 ∙ ap (below (link.0)) both.1 ∙ d_at.1
        | inr (inr (inr last)) ↦ absurd (apart_at_start (subclass_line names a c) (codes ")") (λ same. let no : 83 ≡ 41 = same in absurd (omega arith)) last)
      ]

  group_so : (group : List ℕ) (a c : ℕ) → a < length names → c < length names → HasLine (text names below) (equivalent_line names group)
      → Contains group a → Contains group c → below a c ≡ true
  group_so group a c a_in c_in h at_a at_c =
      elim (line_shown names (representatives names below) (members names below) (proper names below) (parents names below) known.iris (equivalent_line names group) h) [
        | inl first ↦ absurd (apart_at_start (equivalent_line names group) (codes "Ontology(") (λ same. let no : 69 ≡ 79 = same in absurd (omega arith)) first)
        | inr (inl found) ↦
            let r = found.0 in
            let ms = members names below r in
            let within = members_within r found.1 in
            let a_is = in_members r a found.1 (listed_in_group names known.iris known.distinct a group ms a_in within (omega arith) found.2 at_a) in
            let c_is = in_members r c found.1 (listed_in_group names known.iris known.distinct c group ms c_in within (omega arith) found.2 at_c) in
            s.transitive a r c a_in (in_representatives names below r found.1).0 c_in a_is.2 c_is.1
        | inr (inr (inl link)) ↦
            absurd (apart_at_start (equivalent_line names group) (subclass_line names (link.0) (link.1)) (λ same. let no : 69 ≡ 83 = same in absurd (omega arith)) link.4)
        | inr (inr (inr last)) ↦ absurd (apart_at_start (equivalent_line names group) (codes ")") (λ same. let no : 69 ≡ 41 = same in absurd (omega arith)) last)
      ]

  -- ---- what is read

  shows_so : (a c : ℕ) → a < length names → c < length names → Shows names (text names below) a c → below a c ≡ true
  shows_so a c a_in c_in (inl nothing) = subst (λ x. below x c ≡ true) (sym nothing) (s.nothing c c_in)
  shows_so a c a_in c_in (inr (inl thing)) = subst (λ x. below a x ≡ true) (sym thing) (s.thing a a_in)
  shows_so a c a_in c_in (inr (inr (inl line))) = subclass_so a c a_in c_in line
  shows_so a c a_in c_in (inr (inr (inr found))) = group_so (found.0) a c a_in c_in found.1 found.2 found.3

  pub leads_so : (n a b : ℕ) → a < length names → b < length names → ShowsInSteps names (text names below) a b n → below a b ≡ true
  leads_so zero a b a_in b_in same = subst (λ x. below a x ≡ true) same (s.reflexive a a_in)
  leads_so (suc n) a b a_in b_in (c, c_in, shows, leads) =
      s.transitive a c b a_in c_in b_in (shows_so a c a_in c_in shows) (leads_so n c b c_in b_in leads)
