-- Operands by their place.
use Rattle.std.specs.Prelude.{ℕ, List, get_or}
use Rattle.cd_meaning.specs.declared.expression.Expr.{Expr}
use Rattle.cd_meaning.specs.declared.expression.Expr.TheVariants.{Name}

-- the operand at this place; the places that are asked for have one
abbrev pub operand : List Expr → ℕ → Expr
operand l i = get_or l i (Name 0)
