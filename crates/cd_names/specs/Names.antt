-- Names by number: each has the place at which it first came.
use Rattle.std.specs.Prelude.{ℕ, if◌then◌else◌, List, [], ◌∷◌, ◌++◌}
use Rattle.std.specs.List.{list_any, position_or_len}
use Rattle.std.specs.Str.{bytes_eq}

-- a new name goes to the end
abbrev pub add_name : List (List ℕ) → List ℕ → List (List ℕ)
add_name names i = if list_any (bytes_eq i) names then names else names ++ i ∷ []

abbrev pub number : List (List ℕ) → List ℕ → ℕ
number names i = position_or_len (bytes_eq i) names
