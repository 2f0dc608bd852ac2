-- An expression written as numbers, by which trees are told apart.
use Rattle.std.specs.Prelude.{ℕ, List, [], ◌∷◌, ◌++◌}
use Rattle.std.specs.List.{flat_map}
use Rattle.cd_meaning.specs.declared.expression.Expr.{Expr}
use Rattle.cd_meaning.specs.declared.expression.Expr.TheOpen.{Expr-F}
use Rattle.cd_meaning.specs.declared.expression.Expr.TheFolds.{fold-Expr}

-- from the codes of the parts: the form, a number where it has one, and the parts; 6 ends a list of parts
abbrev pub code_by_parts : Expr-F (List ℕ) → List ℕ
code_by_parts (Expr-F.Name c) = 0 ∷ c ∷ []
code_by_parts (Expr-F.Meet parts) = 1 ∷ (flat_map (λ part. part) parts ++ 6 ∷ [])
code_by_parts (Expr-F.Join parts) = 2 ∷ (flat_map (λ part. part) parts ++ 6 ∷ [])
code_by_parts (Expr-F.Minus part) = 3 ∷ part
code_by_parts (Expr-F.SomeOf r part) = 4 ∷ r ∷ part
code_by_parts (Expr-F.AllOf r part) = 5 ∷ r ∷ part

abbrev pub code : Expr → List ℕ
code = fold-Expr (List ℕ) code_by_parts
