-- Which elements are in a class expression, a line for each form: the table of Direct Semantics, section 2.2.3.
-- These are facts about `member`, by which crates above reason about it.
use Rattle.std.specs.Prelude.{◌≡◌, ℕ, Bool, not, List, [], ◌∷◌, ◌||◌, map, refl}
use Rattle.std.proofs.Common.{ap, sym, ◌∙◌}
use Rattle.std.specs.List.{list_all, list_any}
use Rattle.std.proofs.lemmas.List.Folds.{list_all-map}
use Rattle.cd_meaning.specs.declared.expression.Expr.{Expr}
use Rattle.cd_meaning.specs.declared.expression.Expr.TheVariants.{Name, Meet, Join, Minus, SomeOf, AllOf, rolls-Name, rolls-Meet, rolls-Join, rolls-Minus, rolls-SomeOf, rolls-AllOf}
use Rattle.cd_meaning.specs.declared.expression.Expr.TheOpen.{Expr-F}
use Rattle.cd_meaning.specs.declared.expression.Expr.TheViews.{roll-Expr}
use Rattle.cd_meaning.specs.declared.expression.Expr.TheFolds.{fold-roll-Expr, map-Expr}
use Rattle.cd_meaning.specs.declared.interpretation.Interpretation.{Interpretation}
use Rattle.cd_meaning.specs.Membership.{class_has, leads, keeps, in_by_parts, member}

pub list_any-map : {X Y : Type 0} (p : X → Bool) (f : Y → X) (ys : List Y)
    → list_any p (map f ys) ≡ list_any (λ y. p (f y)) ys
list_any-map p f [] = refl
list_any-map p f (y ∷ ys) = ap (λ b. p (f y) || b) (list_any-map p f ys)

module _ (i : Interpretation) (x : ℕ) where
  member-roll : (e : Expr) (layer : Expr-F Expr) → roll-Expr layer ≡ e
      → member i e x ≡ in_by_parts i (map-Expr Expr (ℕ → Bool) (member i) layer) x
  member-roll e layer rolls = ap (λ (d : Expr). member i d x) (sym rolls)
      ∙ ap (λ (test : ℕ → Bool). test x) (fold-roll-Expr (ℕ → Bool) (in_by_parts i) layer)

  pub member-Name : (c : ℕ) → member i (Name c) x ≡ class_has i c x
  member-Name c = member-roll (Name c) (Expr-F.Name c) (rolls-Name c)

  pub member-Meet : (parts : List Expr)
      → member i (Meet parts) x ≡ list_all (λ part. member i part x) parts
  member-Meet parts = member-roll (Meet parts) (Expr-F.Meet parts) (rolls-Meet parts)
      ∙ list_all-map (λ (test : ℕ → Bool). test x) (member i) parts

  pub member-Join : (parts : List Expr)
      → member i (Join parts) x ≡ list_any (λ part. member i part x) parts
  member-Join parts = member-roll (Join parts) (Expr-F.Join parts) (rolls-Join parts)
      ∙ list_any-map (λ (test : ℕ → Bool). test x) (member i) parts

  pub member-Minus : (part : Expr) → member i (Minus part) x ≡ not (member i part x)
  member-Minus part = member-roll (Minus part) (Expr-F.Minus part) (rolls-Minus part)

  pub member-SomeOf : (r : ℕ) (part : Expr)
      → member i (SomeOf r part) x ≡ list_any (leads r x (member i part)) i.roles
  member-SomeOf r part = member-roll (SomeOf r part) (Expr-F.SomeOf r part) (rolls-SomeOf r part)

  pub member-AllOf : (r : ℕ) (part : Expr)
      → member i (AllOf r part) x ≡ list_all (keeps r x (member i part)) i.roles
  member-AllOf r part = member-roll (AllOf r part) (Expr-F.AllOf r part) (rolls-AllOf r part)
