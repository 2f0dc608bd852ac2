use Rattle.std.proofs.Common.{ℕ, List, map, sym, ap, subst, inl, inr, refl, ◌∙◌}
use Rattle.cd_base.specs.Keys.{code}
use Rattle.cd_base.specs.Lists.{OneOf}
use Rattle.cd_clause.proofs.Walks.{opened}
use Rattle.cd_store.proofs.filing.Filing.with_literals.Goals as goal

pub returns-in-len1-up : goal.returns-in-len1-up
returns-in-len1-up c =
    let ls = c.lits.result.now in
    let is = sym c.lits.ensures.codes ∙ ap (map code) (opened ls c.lit-item.result c.in-len1-up.len_at_least c.lit-item.is) in
    λ n each among. c.shortest.ensures n
    (subst (λ (l : List ℕ). OneOf n l) (sym c.with_lit.ensures) (each _ (subst (λ (k : List ℕ). OneOf (code c.lit-item.result) k) (sym is) (inl refl))))
    (λ l m. each l (subst (λ (k : List ℕ). OneOf l k) (sym is) (inr m)))
