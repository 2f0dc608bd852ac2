-- The names of which a context leaves open whether they are above it.
use Rattle.std.specs.Prelude.{◌≡◌, ℕ, true, List}
use Rattle.cd_base.specs.Keys.{is_named}
use Rattle.cd_base.specs.Lists.{OneOf}
use Rattle.cd_base.specs.declared.normal.Normal.{Normal}
use Rattle.cd_clause.specs.Elements.{IsCase}
use Rattle.cd_clause.specs.declared.elem.Elem.{Elem}

-- the atom is named, and the greatest of a live clause that has others
abbrev pub IsOpenName : Normal → List (List Elem) → ℕ → Type 0
IsOpenName n live b =
    (is_named n b ≡ true) × ((c : List Elem) × OneOf c live × IsCase n b c)
