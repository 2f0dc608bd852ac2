-- What the numbers of nodes and the ranges of a class expression come to, a line for each form.
use Rattle.std.proofs.Common.{◌≡◌, ℕ, ◌+◌, ◌&&◌, Bool, nat_lt, List, sum_by, sym, ap, ◌∙◌}
use Rattle.std.specs.List.{list_all}
use Rattle.std.proofs.lemmas.List.Folds.{list_all-map}
use Rattle.std.proofs.lemmas.List.Sums.{sum-map}
use Rattle.cd_meaning.specs.declared.expression.Expr.{Expr}
use Rattle.cd_meaning.specs.declared.expression.Expr.TheVariants.{Name, Meet, Join, Minus, SomeOf, AllOf, rolls-Name, rolls-Meet, rolls-Join, rolls-Minus, rolls-SomeOf, rolls-AllOf}
use Rattle.cd_meaning.specs.declared.expression.Expr.TheOpen.{Expr-F}
use Rattle.cd_meaning.specs.declared.expression.Expr.TheViews.{roll-Expr}
use Rattle.cd_meaning.specs.declared.expression.Expr.TheFolds.{fold-roll-Expr, map-Expr}
use Rattle.cd_meaning.specs.Nodes.{nodes_of, nodes_by_parts}
use Rattle.cd_meaning.specs.Numbered.{is_in_range, below_by_parts}

-- nodes
nodes-roll : (e : Expr) (layer : Expr-F Expr) → roll-Expr layer ≡ e
    → nodes_of e ≡ nodes_by_parts (map-Expr Expr ℕ nodes_of layer)
nodes-roll e layer rolls = ap nodes_of (sym rolls) ∙ fold-roll-Expr ℕ nodes_by_parts layer

pub nodes-Name : (c : ℕ) → nodes_of (Name c) ≡ 1
nodes-Name c = nodes-roll (Name c) (Expr-F.Name c) (rolls-Name c)

pub nodes-Meet : (parts : List Expr) → nodes_of (Meet parts) ≡ 1 + sum_by nodes_of parts
nodes-Meet parts = nodes-roll (Meet parts) (Expr-F.Meet parts) (rolls-Meet parts)
    ∙ ap (λ n. 1 + n) (sum-map nodes_of parts)

pub nodes-Join : (parts : List Expr) → nodes_of (Join parts) ≡ 1 + sum_by nodes_of parts
nodes-Join parts = nodes-roll (Join parts) (Expr-F.Join parts) (rolls-Join parts)
    ∙ ap (λ n. 1 + n) (sum-map nodes_of parts)

pub nodes-Minus : (part : Expr) → nodes_of (Minus part) ≡ 1 + nodes_of part
nodes-Minus part = nodes-roll (Minus part) (Expr-F.Minus part) (rolls-Minus part)

pub nodes-SomeOf : (r : ℕ) (part : Expr) → nodes_of (SomeOf r part) ≡ 1 + nodes_of part
nodes-SomeOf r part = nodes-roll (SomeOf r part) (Expr-F.SomeOf r part) (rolls-SomeOf r part)

pub nodes-AllOf : (r : ℕ) (part : Expr) → nodes_of (AllOf r part) ≡ 1 + nodes_of part
nodes-AllOf r part = nodes-roll (AllOf r part) (Expr-F.AllOf r part) (rolls-AllOf r part)

-- ranges
module _ (classes roles : ℕ) where
  below-roll : (e : Expr) (layer : Expr-F Expr) → roll-Expr layer ≡ e
      → is_in_range classes roles e
      ≡ below_by_parts classes roles (map-Expr Expr Bool (is_in_range classes roles) layer)
  below-roll e layer rolls = ap (is_in_range classes roles) (sym rolls)
      ∙ fold-roll-Expr Bool (below_by_parts classes roles) layer

  pub below-Name : (c : ℕ) → is_in_range classes roles (Name c) ≡ nat_lt c classes
  below-Name c = below-roll (Name c) (Expr-F.Name c) (rolls-Name c)

  pub below-Meet : (parts : List Expr)
      → is_in_range classes roles (Meet parts) ≡ list_all (is_in_range classes roles) parts
  below-Meet parts = below-roll (Meet parts) (Expr-F.Meet parts) (rolls-Meet parts)
      ∙ list_all-map (λ (part : Bool). part) (is_in_range classes roles) parts

  pub below-Join : (parts : List Expr)
      → is_in_range classes roles (Join parts) ≡ list_all (is_in_range classes roles) parts
  below-Join parts = below-roll (Join parts) (Expr-F.Join parts) (rolls-Join parts)
      ∙ list_all-map (λ (part : Bool). part) (is_in_range classes roles) parts

  pub below-Minus : (part : Expr)
      → is_in_range classes roles (Minus part) ≡ is_in_range classes roles part
  below-Minus part = below-roll (Minus part) (Expr-F.Minus part) (rolls-Minus part)

  pub below-SomeOf : (r : ℕ) (part : Expr)
      → is_in_range classes roles (SomeOf r part)
      ≡ (nat_lt r roles && is_in_range classes roles part)
  below-SomeOf r part = below-roll (SomeOf r part) (Expr-F.SomeOf r part) (rolls-SomeOf r part)

  pub below-AllOf : (r : ℕ) (part : Expr)
      → is_in_range classes roles (AllOf r part)
      ≡ (nat_lt r roles && is_in_range classes roles part)
  below-AllOf r part = below-roll (AllOf r part) (Expr-F.AllOf r part) (rolls-AllOf r part)
