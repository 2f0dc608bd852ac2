-- The hierarchy of named classes that a relation gives: its groups of equivalent classes, and the direct superclasses of each.
-- Classes go by number, 0 being owl:Thing and 1 owl:Nothing. The relation is a test, `below`, that is reflexive and transitive.
use Rattle.std.specs.Prelude.{ℕ, Bool, not, ◌&&◌, ◌==◌, nat_lt, if◌then◌else◌, List, [], ◌∷◌, length, filter, slice_index_or}
use Rattle.std.specs.List.{list_any, range_with_len}
use Rattle.std.specs.Ordering.{nat_cmp, is_lt}
use Rattle.std.specs.Cmp.Lexicographic.{slice_cmp}

abbrev pub name_of : List (List ℕ) → ℕ → List ℕ
name_of names c = slice_index_or names c []

-- ---- the classes in the order of their names' bytes

-- the name of c stands before that of d
abbrev pub is_before : List (List ℕ) → ℕ → ℕ → Bool
is_before names c d = is_lt (slice_cmp nat_cmp (name_of names c) (name_of names d))

-- c at its place among classes that are in order
abbrev pub put_in_order : List (List ℕ) → ℕ → List ℕ → List ℕ
put_in_order names c [] = c ∷ []
put_in_order names c (d ∷ more) = if is_before names c d then c ∷ d ∷ more else d ∷ put_in_order names c more

abbrev pub in_order : List (List ℕ) → List ℕ → List ℕ
in_order names [] = []
in_order names (c ∷ more) = put_in_order names c (in_order names more)

-- every class
abbrev pub classes_in_order : List (List ℕ) → List ℕ
classes_in_order names = in_order names (range_with_len 0 (length names))

-- ---- two classes

-- each is below the other, so they are in one group
abbrev pub is_equivalent : (ℕ → ℕ → Bool) → ℕ → ℕ → Bool
is_equivalent below c d = below c d && below d c

abbrev pub is_strictly_below : (ℕ → ℕ → Bool) → ℕ → ℕ → Bool
is_strictly_below below c d = below c d && not (below d c)

abbrev pub is_reserved : ℕ → Bool
is_reserved c = nat_lt c 2

abbrev pub first_or : ℕ → List ℕ → ℕ
first_or c [] = c
first_or c (d ∷ more) = d

-- ---- the groups and their direct superclasses

module _ (names : List (List ℕ)) (below : ℕ → ℕ → Bool) where
  -- the classes equivalent to c
  abbrev pub group_of : ℕ → List ℕ
  group_of c = filter (is_equivalent below c) (classes_in_order names)

  -- owl:Nothing if it is in the group of c, else owl:Thing if it is, else the first by the bytes of its name
  abbrev pub representative : ℕ → ℕ
  representative c = if is_equivalent below c 1 then 1 else (if is_equivalent below c 0 then 0 else first_or c (group_of c))

  -- one class of each group, in order
  abbrev pub representatives : List ℕ
  representatives = filter (λ c. representative c == c) (classes_in_order names)

  -- the group of a representative: itself first, and then the others in order
  abbrev pub members : ℕ → List ℕ
  members r = r ∷ filter (λ c. not (c == r)) (group_of r)

  -- some group is strictly between
  abbrev pub has_between : ℕ → ℕ → Bool
  has_between c d = list_any (λ e. is_strictly_below below c e && is_strictly_below below e d) representatives

  -- d is strictly above c, and no group is strictly between
  abbrev pub is_parent : ℕ → ℕ → Bool
  is_parent c d = is_strictly_below below c d && not (has_between c d)

  -- the direct superclasses of a group, by their representatives, in order
  abbrev pub parents : ℕ → List ℕ
  parents r = filter (is_parent r) representatives

  -- the groups that have neither owl:Thing nor owl:Nothing
  abbrev pub proper : List ℕ
  proper = filter (λ r. not (list_any is_reserved (members r))) representatives
