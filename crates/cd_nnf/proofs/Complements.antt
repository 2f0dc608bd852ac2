-- The normal forms of the complements of both normal forms.
use Rattle.std.proofs.Common.{◌≡◌, List, [], ◌∷◌, map, refl, sym, ap, ◌∙◌}
use Rattle.std.specs.List.{AllByRecursion}
use Rattle.cd_meaning.specs.declared.expression.Expr.{Expr}
use Rattle.cd_meaning.specs.declared.expression.Expr.TheVariants.{Name, Meet, Join, SomeOf, AllOf}
use Rattle.cd_meaning.specs.Induction.{induct}
use Rattle.cd_nnf.specs.Nnf.{nnf, nnf_not}
use Rattle.cd_nnf.specs.NnfTable.{nnf-Name, nnf-Meet, nnf-Join, nnf-Minus, nnf-SomeOf, nnf-AllOf, nnf_not-Name, nnf_not-Meet, nnf_not-Join, nnf_not-Minus, nnf_not-SomeOf, nnf_not-AllOf}

-- the complement of the normal form has the normal form of the complement, and the other way round
abbrev Twice : Expr → Type 0
Twice e = (nnf_not (nnf e) ≡ nnf_not e) × (nnf_not (nnf_not e) ≡ nnf e)

plain_parts : (l : List Expr) → AllByRecursion Twice l → map nnf_not (map nnf l) ≡ map nnf_not l
plain_parts [] h = refl
plain_parts (e ∷ l) h = ap (λ (d : Expr). d ∷ map nnf_not (map nnf l)) h.0.0 ∙ ap (λ m. nnf_not e ∷ m) (plain_parts l h.1)

negated_parts : (l : List Expr) → AllByRecursion Twice l → map nnf_not (map nnf_not l) ≡ map nnf l
negated_parts [] h = refl
negated_parts (e ∷ l) h = ap (λ (d : Expr). d ∷ map nnf_not (map nnf_not l)) h.0.1 ∙ ap (λ m. nnf e ∷ m) (negated_parts l h.1)

pub twice : (e : Expr) → Twice e
twice = induct Twice
    (λ c. (ap nnf_not (nnf-Name c), ap nnf_not (nnf_not-Name c) ∙ nnf_not-Minus (Name c)))
    (λ l h. (
      ap nnf_not (nnf-Meet l) ∙ nnf_not-Meet (map nnf l) ∙ ap (λ m. Join m) (plain_parts l h) ∙ sym (nnf_not-Meet l),
      ap nnf_not (nnf_not-Meet l) ∙ nnf_not-Join (map nnf_not l) ∙ ap (λ m. Meet m) (negated_parts l h) ∙ sym (nnf-Meet l),
    ))
    (λ l h. (
      ap nnf_not (nnf-Join l) ∙ nnf_not-Join (map nnf l) ∙ ap (λ m. Meet m) (plain_parts l h) ∙ sym (nnf_not-Join l),
      ap nnf_not (nnf_not-Join l) ∙ nnf_not-Meet (map nnf_not l) ∙ ap (λ m. Join m) (negated_parts l h) ∙ sym (nnf-Join l),
    ))
    (λ p h. (ap nnf_not (nnf-Minus p) ∙ h.1 ∙ sym (nnf_not-Minus p), ap nnf_not (nnf_not-Minus p) ∙ h.0 ∙ sym (nnf-Minus p)))
    (λ r p h. (
      ap nnf_not (nnf-SomeOf r p) ∙ nnf_not-SomeOf r (nnf p) ∙ ap (λ (d : Expr). AllOf r d) h.0 ∙ sym (nnf_not-SomeOf r p),
      ap nnf_not (nnf_not-SomeOf r p) ∙ nnf_not-AllOf r (nnf_not p) ∙ ap (λ (d : Expr). SomeOf r d) h.1 ∙ sym (nnf-SomeOf r p),
    ))
    (λ r p h. (
      ap nnf_not (nnf-AllOf r p) ∙ nnf_not-AllOf r (nnf p) ∙ ap (λ (d : Expr). SomeOf r d) h.0 ∙ sym (nnf_not-AllOf r p),
      ap nnf_not (nnf_not-AllOf r p) ∙ nnf_not-SomeOf r (nnf_not p) ∙ ap (λ (d : Expr). AllOf r d) h.1 ∙ sym (nnf-AllOf r p),
    ))
