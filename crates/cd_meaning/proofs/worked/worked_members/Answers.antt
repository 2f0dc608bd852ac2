use Rattle.std.proofs.Common.{[], ◌∷◌}
use Rattle.cd_meaning.specs.declared.expression.Expr.TheVariants.{Meet, Join, Minus, SomeOf, AllOf}
use Rattle.cd_meaning.specs.Worked.{owl_thing, owl_nothing, person, parent, child, has_child}
use Rattle.cd_meaning.proofs.WorkedFamily.{name, meet, join, minus, some, all, elements}
use Rattle.cd_meaning.proofs.worked.worked_members.Goals as goal

pub returns-clause-thing : goal.returns-clause-thing
returns-clause-thing c = elements owl_thing (name 0)

pub returns-clause-nothing : goal.returns-clause-nothing
returns-clause-nothing c = elements owl_nothing (name 1)

pub returns-clause-class : goal.returns-clause-class
returns-clause-class c = elements parent (name 3)

pub returns-clause-intersection : goal.returns-clause-intersection
returns-clause-intersection c = elements (Meet (person ∷ parent ∷ [])) (meet person parent (name 2) (name 3))

pub returns-clause-union : goal.returns-clause-union
returns-clause-union c = elements (Join (parent ∷ child ∷ [])) (join parent child (name 3) (name 4))

pub returns-clause-complement : goal.returns-clause-complement
returns-clause-complement c = elements (Minus parent) (minus parent (name 3))

pub returns-clause-existential : goal.returns-clause-existential
returns-clause-existential c = elements (SomeOf has_child person) (some has_child person (name 2))

pub returns-clause-universal : goal.returns-clause-universal
returns-clause-universal c = elements (AllOf has_child parent) (all has_child parent (name 3))
