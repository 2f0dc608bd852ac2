-- Clauses among those that a rule appends.
use Rattle.std.specs.Prelude.{List}
use Rattle.cd_base.specs.Lists.{OneOf, SameSet}
use Rattle.cd_clause.specs.declared.elem.Elem.{Elem}

-- one of these clauses has the same elements
abbrev pub Among : List Elem → List (List Elem) → Type 0
Among d out = (c : List Elem) × OneOf c out × SameSet c d
