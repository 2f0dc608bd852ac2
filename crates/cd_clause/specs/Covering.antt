-- Elements that say more than others, and clauses beside which others say nothing.
use Rattle.std.specs.Prelude.{◌≡◌, ◌&&◌, Bool, true, false, List, ltb, eqb}
use Rattle.cd_base.specs.Ascending.{is_covered}
use Rattle.cd_base.specs.Lists.{OneOf}
use Rattle.cd_clause.specs.declared.elem.Elem.{Elem}
use Rattle.cd_clause.specs.declared.elem.Elem.TheVariants.{Plain, Exist}

-- the first says at least as much as the second: they are one atom, or existentials of one role where the second key is a subset of the
-- first, as one walk over both finds
abbrev pub is_as_strong : Elem → Elem → Bool
is_as_strong (Plain a) (Plain b) = eqb a b
is_as_strong (Plain a) (Exist s l) = false
is_as_strong (Exist r k) (Plain b) = false
is_as_strong (Exist r k) (Exist s l) = eqb r s && is_covered ltb l k

-- the element is at least as strong as one of the clause
abbrev pub HasWeaker : Elem → List Elem → Type 0
HasWeaker e c = (f : Elem) × OneOf f c × (is_as_strong e f ≡ true)

-- each element of the first clause is at least as strong as one of the second
abbrev pub Covers : List Elem → List Elem → Type 0
Covers d c = (e : Elem) → OneOf e d → HasWeaker e c

-- the first stands before the second in a clause, whatever their keys
abbrev pub is_lower : Elem → Elem → Bool
is_lower (Plain a) (Plain b) = ltb a b
is_lower (Plain a) (Exist s l) = true
is_lower (Exist r k) (Plain b) = false
is_lower (Exist r k) (Exist s l) = ltb r s
