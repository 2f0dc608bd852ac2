-- What is worked out of the classes on the way to their groups.
use Rattle.std.specs.Prelude.{◌≡◌, ◌≢◌, ℕ, ◌<◌, List, length, map, filter, All, AllPairs, slice_index}
use Rattle.std.specs.List.{range_with_len}
use Rattle.cd_base.specs.declared.answer.Answer.{Answer}
use Rattle.cd_meaning.specs.Hierarchy.{representative}
use Rattle.cd_taxonomy.specs.Relation.{is_superclass, relation}

-- the classes below n that are above a class with this answer, ascending
abbrev pub superclasses : ℕ → Answer → List ℕ
superclasses n answer = filter (is_superclass answer) (range_with_len 0 n)

-- how many classes are above each class
abbrev pub superclass_counts : List Answer → List ℕ
superclass_counts above = map (λ answer. length (superclasses (length above) answer)) above

-- the list has each number below its length once
pub record IsOrdering (order : List ℕ) : Type 0 where
  pub within : All (λ c. c < length order) order
  pub distinct : AllPairs (λ c d. c ≢ d) order

-- where the numbers of a list stand in it, for each number below n
pub record ArePlaces (n : ℕ) (xs places : List ℕ) : Type 0 where
  pub long : length places ≡ n
  pub at : (k : ℕ) → k < length xs → slice_index places (slice_index xs k) ≡ k

-- the representative of each class
abbrev pub representative_list : List (List ℕ) → List Answer → List ℕ
representative_list names above =
    map (representative names (relation above)) (range_with_len 0 (length names))
