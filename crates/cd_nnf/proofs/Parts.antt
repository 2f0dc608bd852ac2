-- The normal forms of an intersection and of a union, from a list of the forms of their parts.
use Rattle.std.proofs.Common.{◌≡◌, List, map, sym, ap, ◌∙◌}
use Rattle.cd_meaning.specs.declared.expression.Expr.{Expr}
use Rattle.cd_meaning.specs.declared.expression.Expr.TheVariants.{Meet, Join}
use Rattle.cd_nnf.specs.Nnf.{nnf, nnf_not}
use Rattle.cd_nnf.specs.NnfTable.{nnf-Meet, nnf-Join, nnf_not-Meet, nnf_not-Join}

module _ (e : Expr) (parts made : List Expr) where
  pub made_meet : e ≡ Meet parts → made ≡ map nnf parts → Meet made ≡ nnf e
  made_meet is h = ap (λ l. Meet l) h ∙ sym (nnf-Meet parts) ∙ ap nnf (sym is)

  pub made_join : e ≡ Join parts → made ≡ map nnf parts → Join made ≡ nnf e
  made_join is h = ap (λ l. Join l) h ∙ sym (nnf-Join parts) ∙ ap nnf (sym is)

  pub made_not_meet : e ≡ Meet parts → made ≡ map nnf_not parts → Join made ≡ nnf_not e
  made_not_meet is h = ap (λ l. Join l) h ∙ sym (nnf_not-Meet parts) ∙ ap nnf_not (sym is)

  pub made_not_join : e ≡ Join parts → made ≡ map nnf_not parts → Meet made ≡ nnf_not e
  made_not_join is h = ap (λ l. Meet l) h ∙ sym (nnf_not-Join parts) ∙ ap nnf_not (sym is)
