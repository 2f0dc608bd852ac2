-- The two normal forms, a line for each form of expression.
-- These are facts about `nnf` and `nnf_not`, by which crates above reason about them.
use Rattle.std.specs.Prelude.{◌≡◌, ℕ, List, map}
use Rattle.std.proofs.Common.{ap, sym, ◌∙◌}
use Rattle.std.proofs.lemmas.Simd.{map-map}
use Rattle.cd_meaning.specs.declared.expression.Expr.{Expr}
use Rattle.cd_meaning.specs.declared.expression.Expr.TheVariants.{Name, Meet, Join, Minus, SomeOf, AllOf, rolls-Name, rolls-Meet, rolls-Join, rolls-Minus, rolls-SomeOf, rolls-AllOf}
use Rattle.cd_meaning.specs.declared.expression.Expr.TheOpen.{Expr-F}
use Rattle.cd_meaning.specs.declared.expression.Expr.TheViews.{roll-Expr}
use Rattle.cd_meaning.specs.declared.expression.Expr.TheFolds.{fold-roll-Expr, map-Expr}
use Rattle.cd_nnf.specs.Nnf.{Forms, forms_by_parts, forms, nnf, nnf_not}

-- the forms of an expression are made of those of its parts
forms-roll : (e : Expr) (layer : Expr-F Expr) → roll-Expr layer ≡ e
    → forms e ≡ forms_by_parts (map-Expr Expr Forms forms layer)
forms-roll e layer rolls = ap forms (sym rolls) ∙ fold-roll-Expr Forms forms_by_parts layer

-- ---- the normal form of an expression

pub nnf-Name : (c : ℕ) → nnf (Name c) ≡ Name c
nnf-Name c = ap (λ (f : Forms). f.plain) (forms-roll (Name c) (Expr-F.Name c) (rolls-Name c))

pub nnf-Meet : (parts : List Expr) → nnf (Meet parts) ≡ Meet (map nnf parts)
nnf-Meet parts = ap (λ (f : Forms). f.plain)
    (forms-roll (Meet parts) (Expr-F.Meet parts) (rolls-Meet parts))
    ∙ ap (λ l. Meet l) (map-map (λ (f : Forms). f.plain) forms parts)

pub nnf-Join : (parts : List Expr) → nnf (Join parts) ≡ Join (map nnf parts)
nnf-Join parts = ap (λ (f : Forms). f.plain)
    (forms-roll (Join parts) (Expr-F.Join parts) (rolls-Join parts))
    ∙ ap (λ l. Join l) (map-map (λ (f : Forms). f.plain) forms parts)

pub nnf-Minus : (part : Expr) → nnf (Minus part) ≡ nnf_not part
nnf-Minus part = ap (λ (f : Forms). f.plain)
    (forms-roll (Minus part) (Expr-F.Minus part) (rolls-Minus part))

pub nnf-SomeOf : (r : ℕ) (part : Expr) → nnf (SomeOf r part) ≡ SomeOf r (nnf part)
nnf-SomeOf r part = ap (λ (f : Forms). f.plain)
    (forms-roll (SomeOf r part) (Expr-F.SomeOf r part) (rolls-SomeOf r part))

pub nnf-AllOf : (r : ℕ) (part : Expr) → nnf (AllOf r part) ≡ AllOf r (nnf part)
nnf-AllOf r part = ap (λ (f : Forms). f.plain)
    (forms-roll (AllOf r part) (Expr-F.AllOf r part) (rolls-AllOf r part))

-- ---- the normal form of its complement

pub nnf_not-Name : (c : ℕ) → nnf_not (Name c) ≡ Minus (Name c)
nnf_not-Name c = ap (λ (f : Forms). f.negated) (forms-roll (Name c) (Expr-F.Name c) (rolls-Name c))

pub nnf_not-Meet : (parts : List Expr) → nnf_not (Meet parts) ≡ Join (map nnf_not parts)
nnf_not-Meet parts = ap (λ (f : Forms). f.negated)
    (forms-roll (Meet parts) (Expr-F.Meet parts) (rolls-Meet parts))
    ∙ ap (λ l. Join l) (map-map (λ (f : Forms). f.negated) forms parts)

pub nnf_not-Join : (parts : List Expr) → nnf_not (Join parts) ≡ Meet (map nnf_not parts)
nnf_not-Join parts = ap (λ (f : Forms). f.negated)
    (forms-roll (Join parts) (Expr-F.Join parts) (rolls-Join parts))
    ∙ ap (λ l. Meet l) (map-map (λ (f : Forms). f.negated) forms parts)

pub nnf_not-Minus : (part : Expr) → nnf_not (Minus part) ≡ nnf part
nnf_not-Minus part = ap (λ (f : Forms). f.negated)
    (forms-roll (Minus part) (Expr-F.Minus part) (rolls-Minus part))

pub nnf_not-SomeOf : (r : ℕ) (part : Expr) → nnf_not (SomeOf r part) ≡ AllOf r (nnf_not part)
nnf_not-SomeOf r part = ap (λ (f : Forms). f.negated)
    (forms-roll (SomeOf r part) (Expr-F.SomeOf r part) (rolls-SomeOf r part))

pub nnf_not-AllOf : (r : ℕ) (part : Expr) → nnf_not (AllOf r part) ≡ SomeOf r (nnf_not part)
nnf_not-AllOf r part = ap (λ (f : Forms). f.negated)
    (forms-roll (AllOf r part) (Expr-F.AllOf r part) (rolls-AllOf r part))
