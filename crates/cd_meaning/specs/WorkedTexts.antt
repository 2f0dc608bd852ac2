-- Small relations between classes, written by hand, of which the texts are tried.
use Rattle.std.specs.Prelude.{ℕ, Bool, true, ◌||◌, ◌&&◌, ◌==◌, List, [], ◌∷◌, flat_map, codes}
use Rattle.cd_meaning.specs.Iri.{thing, nothing}
use Rattle.cd_meaning.specs.Text.{ended}

-- ---- the classes: A, B and C have the numbers 2, 3 and 4

abbrev pub up_to_b : List (List ℕ)
up_to_b = thing ∷ nothing ∷ codes "x:A" ∷ codes "x:B" ∷ []

abbrev pub up_to_c : List (List ℕ)
up_to_c = thing ∷ nothing ∷ codes "x:A" ∷ codes "x:B" ∷ codes "x:C" ∷ []

-- ---- the relations

-- each class is below itself, owl:Nothing below each and owl:Thing above each
abbrev pub at_least : ℕ → ℕ → Bool
at_least a b = a == b || a == 1 || b == 0

-- A is below B too
abbrev pub one_below : ℕ → ℕ → Bool
one_below a b = at_least a b || (a == 2 && b == 3)

-- A is below B, and B below C
abbrev pub chain : ℕ → ℕ → Bool
chain a b = one_below a b || (a == 3 && b == 4) || (a == 2 && b == 4)

-- A and B are below each other
abbrev pub equivalent : ℕ → ℕ → Bool
equivalent a b = one_below a b || (a == 3 && b == 2)

-- each class is below each
abbrev pub inconsistent : ℕ → ℕ → Bool
inconsistent a b = true

-- ---- the texts

-- each line with its line feed
abbrev pub of_lines : List (List ℕ) → List ℕ
of_lines lines = flat_map ended lines
