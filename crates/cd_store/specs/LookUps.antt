-- What a store finds by what its clauses have.
use Rattle.std.specs.Prelude.{ℕ, ◌<◌, ◌⊎◌, List, [], length, slice_index_or}
use Rattle.cd_base.specs.Lists.{OneOf}
use Rattle.cd_clause.specs.declared.elem.Elem.{Elem}
use Rattle.cd_clause.specs.declared.elem.Elem.TheVariants.{Exist}

-- the clause of this number is stored, and has the element
abbrev pub HasElem : List (List Elem) → Elem → ℕ → Type 0
HasElem clauses e n = (n < length clauses) × OneOf e (slice_index_or clauses n [])

-- the clause of this number is stored, and has an existential
abbrev pub HasExistential : List (List Elem) → ℕ → Type 0
HasExistential clauses n = (r : ℕ) × (k : List ℕ) × HasElem clauses (Exist r k) n

-- `new` has what `old` has, and each number of which P holds
abbrev pub Gains : (ℕ → Type 0) → List ℕ → List ℕ → Type 0
Gains P old new = (m : ℕ) → OneOf m old ⊎ P m → OneOf m new
