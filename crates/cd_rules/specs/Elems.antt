-- What the rules conclude for one element of a premise, of either kind.
use Rattle.std.specs.Prelude.{ℕ, List}
use Rattle.cd_base.specs.declared.normal.Normal.{Normal}
use Rattle.cd_clause.specs.declared.elem.Elem.{Elem}
use Rattle.cd_clause.specs.declared.elem.Elem.TheVariants.{Plain, Exist}
use Rattle.cd_rules.specs.Facts.{ToldFacts}
use Rattle.cd_rules.specs.Steps.{IsOfAtom, IsOfExist}

-- all rules for an element
abbrev pub IsOfElem : Normal → List ℕ → (List Elem → Type 0) → ToldFacts → Elem → List Elem
    → List Elem → Type 0
IsOfElem n key Has facts (Plain a) others d = IsOfAtom n key Has a others d
IsOfElem n key Has facts (Exist r k) others d = IsOfExist n Has facts r k others d
