-- Induction over class expressions, with a case for each form: a fact about `Expr`, by which crates above reason about it.
use Rattle.std.specs.Prelude.{ℕ, List, [], ◌∷◌, map}
use Rattle.std.proofs.Common.{sym, subst}
use Rattle.std.specs.List.{AllByRecursion}
use Rattle.cd_meaning.specs.declared.expression.Expr.{Expr}
use Rattle.cd_meaning.specs.declared.expression.Expr.TheVariants.{Name, Meet, Join, Minus, SomeOf, AllOf, rolls-Name, rolls-Meet, rolls-Join, rolls-Minus, rolls-SomeOf, rolls-AllOf}
use Rattle.cd_meaning.specs.declared.expression.Expr.TheOpen.{Expr-F}
use Rattle.cd_meaning.specs.declared.expression.Expr.TheViews.{roll-Expr}
use Rattle.cd_meaning.specs.declared.expression.Expr.TheFolds.{map-Expr, ind-Expr}

module _ (P : Expr → Type 0)
    (at_name : (c : ℕ) → P (Name c))
    (at_meet : (parts : List Expr) → AllByRecursion P parts → P (Meet parts))
    (at_join : (parts : List Expr) → AllByRecursion P parts → P (Join parts))
    (at_minus : (part : Expr) → P part → P (Minus part))
    (at_some : (r : ℕ) (part : Expr) → P part → P (SomeOf r part))
    (at_all : (r : ℕ) (part : Expr) → P part → P (AllOf r part)) where
  -- an expression of which P holds
  abbrev Proved : Type 0
  Proved = (e : Expr) × P e

  each : (parts : List Proved) → AllByRecursion P (map (λ (part : Proved). part.0) parts)
  each [] = tt
  each (part ∷ parts) = (part.1, each parts)

  -- P holds of what is made of parts of which it holds
  layer : (y : Expr-F Proved) → P (roll-Expr (map-Expr Proved Expr (λ part. part.0) y))
  layer (Expr-F.Name c) = subst P (sym (rolls-Name c)) (at_name c)
  layer (Expr-F.Meet parts) = subst P (sym (rolls-Meet (map (λ (part : Proved). part.0) parts)))
      (at_meet (map (λ (part : Proved). part.0) parts) (each parts))
  layer (Expr-F.Join parts) = subst P (sym (rolls-Join (map (λ (part : Proved). part.0) parts)))
      (at_join (map (λ (part : Proved). part.0) parts) (each parts))
  layer (Expr-F.Minus part) = subst P (sym (rolls-Minus part.0)) (at_minus part.0 part.1)
  layer (Expr-F.SomeOf r part) = subst P (sym (rolls-SomeOf r part.0)) (at_some r part.0 part.1)
  layer (Expr-F.AllOf r part) = subst P (sym (rolls-AllOf r part.0)) (at_all r part.0 part.1)

  -- P holds of every expression
  pub induct : (e : Expr) → P e
  induct = ind-Expr P (λ x y is. subst (λ (z : Expr-F Expr). P (roll-Expr z)) is (layer y))
