-- What a cell reads off the context of a named class.
use Rattle.std.specs.Prelude.{◌≡◌, ◌↔◌, ℕ, true, List, [], ◌∷◌}
use Rattle.cd_base.specs.Keys.{plain, is_named}
use Rattle.cd_base.specs.Lists.{OneOf}
use Rattle.cd_base.specs.declared.normal.Normal.{Normal}
use Rattle.cd_clause.specs.declared.elem.Elem.{Elem}
use Rattle.cd_clause.specs.Derivations.{IsSingle}
use Rattle.cd_context.specs.OpenNames.{IsOpenName}
use Rattle.cd_context.specs.State.{State, live_of}
use Rattle.cd_cell.specs.declared.reading.Reading.{Reading}
use Rattle.cd_cell.specs.declared.reading.Reading.TheVariants.{Unsatisfiable, Of}

-- the class is unsatisfiable exactly where the empty clause is live; else it is below the named atoms whose clause alone is live, and those
-- that its clauses leave open are listed apart
abbrev pub IsReadingOf : Normal → List (List Elem) → Reading → Type 0
IsReadingOf n live Unsatisfiable = OneOf [] live
IsReadingOf n live (Of above left_open) =
    (OneOf [] live → ⊥)
    × ((b : ℕ) → OneOf b above ↔ ((is_named n b ≡ true) × IsSingle live b))
    × ((b : ℕ) → OneOf b left_open ↔ IsOpenName n live b)

-- the key has a context among these
abbrev pub HasContextAt : List (List ℕ × State) → List ℕ → Type 0
HasContextAt contexts key = (s : State) × OneOf (key, s) contexts

-- the key of the atom alone has one
abbrev pub HasContext : List (List ℕ × State) → ℕ → Type 0
HasContext contexts a = HasContextAt contexts (plain a ∷ [])

-- the reading is that of the context of the atom alone
abbrev pub IsReadingIn : Normal → List (List ℕ × State) → ℕ → Reading → Type 0
IsReadingIn n contexts a reading = (s : State) → OneOf (plain a ∷ [], s) contexts
    → IsReadingOf n (live_of s) reading
