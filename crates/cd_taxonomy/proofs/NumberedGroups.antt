-- The groups of a relation are numbered, and their representatives are classes, each once.
use Rattle.std.proofs.Common.{◌≡◌, ◌≢◌, ℕ, ◌<◌, ◌≤◌, ◌==◌, Bool, not, List, length, get_or, map, filter, arith, refl, sym, ap, ◌∙◌, subst}
use Rattle.std.specs.List.{All, AllPairs, Contains}
use Rattle.std.proofs.lemmas.List.{length-map}
use Rattle.std.proofs.lemmas.List.Elements.{All-cons, All-filter, All-map, All-same, All-weaker, All-contains_itself}
use Rattle.std.proofs.lemmas.List.Filters.{length-filter_both}
use Rattle.std.proofs.lemmas.List.Kept.{AllPairs-filter}
use Rattle.cd_meaning.specs.Hierarchy.{classes_in_order, is_equivalent, group_of, representative, representatives, members, is_parent, parents}
use Rattle.cd_taxonomy.specs.declared.groups.Group.{Group}
use Rattle.cd_taxonomy.specs.Groups.{group_number, group_at, groups, IsNumbered}
use Rattle.cd_taxonomy.specs.Steps.{IsOrdering}
use Rattle.cd_taxonomy.proofs.GroupNumbers.{number_stands}

-- numbers below n, each once
pub record AreClasses (n : ℕ) (cs : List ℕ) : Type 0 where
  pub short : length cs ≤ n
  pub within : All (λ c. c < n) cs
  pub distinct : AllPairs (λ c d. c ≢ d) cs

all_classes : (n : ℕ) (order : List ℕ) → IsOrdering order → length order ≡ n → AreClasses n order
all_classes n order o long =
    let P : ℕ → Type 0 = λ m. AreClasses m order in
    subst P long (record { short = omega arith; within = o.within; distinct = o.distinct })

kept_classes : (n : ℕ) (p : ℕ → Bool) (cs : List ℕ) → AreClasses n cs → AreClasses n (filter p cs)
kept_classes n p cs h = record {
  short = omega (arith, length-filter_both p (λ c. not (p c)) (λ _. refl) cs, h.short);
  within = All-filter p (λ c. c < n) cs h.within;
  distinct = AllPairs-filter (λ c d. c ≢ d) p cs h.distinct;
}

pub representatives_classes : (names : List (List ℕ)) (below : ℕ → ℕ → Bool) (n : ℕ) (order found : List ℕ) → order ≡ classes_in_order names
    → IsOrdering order → length order ≡ n → found ≡ representatives names below → AreClasses n found
representatives_classes names below n order found is_order o long is =
    let p : ℕ → Bool = λ c. representative names below c == c in
    subst (AreClasses n) (ap (filter p) is_order ∙ sym is) (kept_classes n p order (all_classes n order o long))

module _ (names : List (List ℕ)) (below : ℕ → ℕ → Bool) (n : ℕ) (within : All (λ c. c < n) (classes_in_order names)) where
  representatives_within : All (λ c. c < n) (representatives names below)
  representatives_within = All-filter (λ c. representative names below c == c) (λ c. c < n) (classes_in_order names) within

  members_within : (r : ℕ) → r < n → All (λ c. c < n) (members names below r)
  members_within r h = All-cons (λ c. c < n) r (filter (λ c. not (c == r)) (group_of names below r)) h
      (All-filter (λ c. not (c == r)) (λ c. c < n) (group_of names below r) (All-filter (is_equivalent below r) (λ c. c < n) (classes_in_order names) within))

  parents_within : (r : ℕ) → All (λ p. p < length (groups names below)) (map (group_number (representatives names below)) (parents names below r))
  parents_within r =
      let rs = representatives names below in
      All-map (λ p. p < length (groups names below)) (group_number rs) (parents names below r)
      (All-weaker (Contains rs) (λ d. group_number rs d < length (groups names below))
      (λ d h. omega (arith, (number_stands rs d h).0, length-map rs (group_at names below)))
      (parents names below r) (All-filter (is_parent names below r) (Contains rs) rs (All-contains_itself rs)))

  groups_numbered : IsNumbered n (groups names below)
  groups_numbered = record {
    inhabited = All-map (λ (g : Group). 0 < length g.members) (group_at names below) (representatives names below) (λ k d h. omega arith);
    members = All-map (λ (g : Group). All (λ c. c < n) g.members) (group_at names below) (representatives names below)
        (All-weaker (λ c. c < n) (λ r. All (λ c. c < n) (members names below r)) members_within (representatives names below) representatives_within);
    parents = All-map (λ (g : Group). All (λ p. p < length (groups names below)) g.parents) (group_at names below) (representatives names below)
        (λ k d h. parents_within (get_or (representatives names below) k d));
  }

pub found_numbered : (names : List (List ℕ)) (below : ℕ → ℕ → Bool) (n : ℕ) (order : List ℕ) (found : List Group) → order ≡ classes_in_order names
    → IsOrdering order → length order ≡ n → found ≡ groups names below → IsNumbered n found
found_numbered names below n order found is_order o long is =
    subst (IsNumbered n) (sym is) (groups_numbered names below n
    (All-same (λ c. c < n) (classes_in_order names) order (sym is_order) ((all_classes n order o long).within)))
