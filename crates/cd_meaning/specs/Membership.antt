-- Which elements are in a class expression: Direct Semantics, section 2.2.3, "Class Expressions".
use Rattle.std.specs.Prelude.{ℕ, Bool, not, ◌&&◌, ◌||◌, ◌==◌}
use Rattle.std.specs.List.{list_all, list_any}
use Rattle.cd_meaning.specs.declared.expression.Expr.{Expr}
use Rattle.cd_meaning.specs.declared.expression.Expr.TheOpen.{Expr-F}
use Rattle.cd_meaning.specs.declared.expression.Expr.TheFolds.{fold-Expr}
use Rattle.cd_meaning.specs.declared.interpretation.Edge.{Edge}
use Rattle.cd_meaning.specs.declared.interpretation.Interpretation.{Interpretation}

-- class 0 has every element, class 1 none, another one those that are listed
abbrev pub class_has : Interpretation → ℕ → ℕ → Bool
class_has i c x = c == 0 || not (c == 1) && list_any (λ m. m.class == c && m.element == x) i.classes

-- the edge is one of r, from x
abbrev pub goes : Edge → ℕ → ℕ → Bool
goes edge r x = edge.role == r && edge.source == x

-- the edge is one of r from x to an element that passes the test
abbrev pub leads : ℕ → ℕ → (ℕ → Bool) → Edge → Bool
leads r x test edge = goes edge r x && test edge.target

-- the edge is one of r from x only if its target passes the test
abbrev pub keeps : ℕ → ℕ → (ℕ → Bool) → Edge → Bool
keeps r x test edge = not (goes edge r x) || test edge.target

-- whether x is in an expression, from the tests of its parts
abbrev pub in_by_parts : Interpretation → Expr-F (ℕ → Bool) → ℕ → Bool
in_by_parts i (Expr-F.Name c) x = class_has i c x
in_by_parts i (Expr-F.Meet parts) x = list_all (λ part. part x) parts
in_by_parts i (Expr-F.Join parts) x = list_any (λ part. part x) parts
in_by_parts i (Expr-F.Minus part) x = not (part x)
in_by_parts i (Expr-F.SomeOf r part) x = list_any (leads r x part) i.roles
in_by_parts i (Expr-F.AllOf r part) x = list_all (keeps r x part) i.roles

-- whether x is in e
abbrev pub member : Interpretation → Expr → ℕ → Bool
member i = fold-Expr (ℕ → Bool) (in_by_parts i)
