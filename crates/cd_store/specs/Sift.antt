-- The scan that takes what a new clause covers out of the live numbers.
use Rattle.std.specs.Prelude.{ℕ, ◌⊎◌, List, [], slice_index_or}
use Rattle.cd_base.specs.Lists.{OneOf}
use Rattle.cd_clause.specs.Covering.{Covers}
use Rattle.cd_clause.specs.declared.elem.Elem.{Elem}
use Rattle.cd_store.specs.Store.{IsAscending}

-- the number is live, and `new` covers its clause
abbrev pub IsCovered : List (List Elem) → List ℕ → List Elem → ℕ → Type 0
IsCovered clauses live new n = OneOf n live × Covers new (slice_index_or clauses n [])

-- what stays of the live numbers without the dead ones
pub record Leaves (dead live after : List ℕ) : Type 0 where
  pub kept : (n : ℕ) → OneOf n live → OneOf n after ⊎ OneOf n dead
  pub only : (n : ℕ) → OneOf n after → OneOf n live × (OneOf n dead → ⊥)
  pub ascends : IsAscending live → IsAscending after

-- the numbers that stay where `new` comes
pub record Sifts (clauses : List (List Elem)) (new : List Elem) (live after : List ℕ) : Type 0 where
  pub kept : (n : ℕ) → OneOf n live → OneOf n after ⊎ Covers new (slice_index_or clauses n [])
  pub only : (n : ℕ) → OneOf n after → OneOf n live × (Covers new (slice_index_or clauses n []) → ⊥)
  pub ascends : IsAscending live → IsAscending after
