-- In the normal forms `Minus` stands before names alone.
use Rattle.std.proofs.Common.{◌≡◌, ℕ, true, List, [], ◌∷◌, map, refl, sym, ap, ◌∙◌}
use Rattle.std.specs.List.{AllByRecursion, list_all}
use Rattle.std.proofs.lemmas.Bool.{and_from}
use Rattle.std.proofs.lemmas.List.Folds.{list_all-map}
use Rattle.cd_meaning.specs.declared.expression.Expr.{Expr}
use Rattle.cd_meaning.specs.declared.expression.Expr.TheVariants.{Name, Meet, Join, Minus, SomeOf, AllOf, rolls-Name, rolls-Meet, rolls-Join, rolls-Minus, rolls-SomeOf, rolls-AllOf}
use Rattle.cd_meaning.specs.declared.expression.Expr.TheOpen.{Expr-F}
use Rattle.cd_meaning.specs.declared.expression.Expr.TheViews.{roll-Expr}
use Rattle.cd_meaning.specs.declared.expression.Expr.TheFolds.{fold-Expr, fold-roll-Expr, map-Expr}
use Rattle.cd_meaning.specs.Induction.{induct}
use Rattle.cd_nnf.specs.Nnf.{nnf, nnf_not, Shape, shape_by_parts, is_nnf, NnfHasNamesUnderMinus}
use Rattle.cd_nnf.specs.NnfTable.{nnf-Name, nnf-Meet, nnf-Join, nnf-Minus, nnf-SomeOf, nnf-AllOf, nnf_not-Name, nnf_not-Meet, nnf_not-Join, nnf_not-Minus, nnf_not-SomeOf, nnf_not-AllOf}

-- ---- a line for each form

abbrev shape : Expr → Shape
shape = fold-Expr Shape shape_by_parts

-- the shape of an expression is made of those of its parts
shape-roll : (e : Expr) (layer : Expr-F Expr) → roll-Expr layer ≡ e → shape e ≡ shape_by_parts (map-Expr Expr Shape shape layer)
shape-roll e layer rolls = ap shape (sym rolls) ∙ fold-roll-Expr Shape shape_by_parts layer

is_nnf-Name : (c : ℕ) → is_nnf (Name c) ≡ true
is_nnf-Name c = ap (λ (s : Shape). s.is_normal) (shape-roll (Name c) (Expr-F.Name c) (rolls-Name c))

is_nnf-Meet : (parts : List Expr) → is_nnf (Meet parts) ≡ list_all is_nnf parts
is_nnf-Meet parts = ap (λ (s : Shape). s.is_normal) (shape-roll (Meet parts) (Expr-F.Meet parts) (rolls-Meet parts)) ∙ list_all-map (λ (s : Shape). s.is_normal) shape parts

is_nnf-Join : (parts : List Expr) → is_nnf (Join parts) ≡ list_all is_nnf parts
is_nnf-Join parts = ap (λ (s : Shape). s.is_normal) (shape-roll (Join parts) (Expr-F.Join parts) (rolls-Join parts)) ∙ list_all-map (λ (s : Shape). s.is_normal) shape parts

is_nnf-Minus : (c : ℕ) → is_nnf (Minus (Name c)) ≡ true
is_nnf-Minus c = ap (λ (s : Shape). s.is_normal) (shape-roll (Minus (Name c)) (Expr-F.Minus (Name c)) (rolls-Minus (Name c)))
    ∙ ap (λ (s : Shape). s.is_name) (shape-roll (Name c) (Expr-F.Name c) (rolls-Name c))

is_nnf-SomeOf : (r : ℕ) (part : Expr) → is_nnf (SomeOf r part) ≡ is_nnf part
is_nnf-SomeOf r part = ap (λ (s : Shape). s.is_normal) (shape-roll (SomeOf r part) (Expr-F.SomeOf r part) (rolls-SomeOf r part))

is_nnf-AllOf : (r : ℕ) (part : Expr) → is_nnf (AllOf r part) ≡ is_nnf part
is_nnf-AllOf r part = ap (λ (s : Shape). s.is_normal) (shape-roll (AllOf r part) (Expr-F.AllOf r part) (rolls-AllOf r part))

-- ---- both forms of an expression

abbrev AreNormal : Expr → Type 0
AreNormal e = (is_nnf (nnf e) ≡ true) × (is_nnf (nnf_not e) ≡ true)

plain_parts : (parts : List Expr) → AllByRecursion AreNormal parts → list_all is_nnf (map nnf parts) ≡ true
plain_parts [] h = refl
plain_parts (part ∷ parts) h = and_from (is_nnf (nnf part)) (list_all is_nnf (map nnf parts)) h.0.0 (plain_parts parts h.1)

negated_parts : (parts : List Expr) → AllByRecursion AreNormal parts → list_all is_nnf (map nnf_not parts) ≡ true
negated_parts [] h = refl
negated_parts (part ∷ parts) h = and_from (is_nnf (nnf_not part)) (list_all is_nnf (map nnf_not parts)) h.0.1 (negated_parts parts h.1)

pub are_nnf : NnfHasNamesUnderMinus
are_nnf = induct AreNormal
    (λ c. (ap is_nnf (nnf-Name c) ∙ is_nnf-Name c, ap is_nnf (nnf_not-Name c) ∙ is_nnf-Minus c))
    (λ l h. (ap is_nnf (nnf-Meet l) ∙ is_nnf-Meet (map nnf l) ∙ plain_parts l h, ap is_nnf (nnf_not-Meet l) ∙ is_nnf-Join (map nnf_not l) ∙ negated_parts l h))
    (λ l h. (ap is_nnf (nnf-Join l) ∙ is_nnf-Join (map nnf l) ∙ plain_parts l h, ap is_nnf (nnf_not-Join l) ∙ is_nnf-Meet (map nnf_not l) ∙ negated_parts l h))
    (λ p h. (ap is_nnf (nnf-Minus p) ∙ h.1, ap is_nnf (nnf_not-Minus p) ∙ h.0))
    (λ r p h. (ap is_nnf (nnf-SomeOf r p) ∙ is_nnf-SomeOf r (nnf p) ∙ h.0, ap is_nnf (nnf_not-SomeOf r p) ∙ is_nnf-AllOf r (nnf_not p) ∙ h.1))
    (λ r p h. (ap is_nnf (nnf-AllOf r p) ∙ is_nnf-AllOf r (nnf p) ∙ h.0, ap is_nnf (nnf_not-AllOf r p) ∙ is_nnf-SomeOf r (nnf_not p) ∙ h.1))
