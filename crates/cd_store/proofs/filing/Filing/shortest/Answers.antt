use Rattle.std.proofs.Common.{ℕ, List, map, sym, subst, inl, inr, refl, ◌∙◌}
use Rattle.cd_base.specs.Keys.{code}
use Rattle.cd_base.specs.Lists.{OneOf}
use Rattle.cd_clause.proofs.Walks.{opened}
use Rattle.cd_store.proofs.filing.Filing.shortest.Goals as goal

pub lits-preserved : goal.lits-preserved
lits-preserved c =
    let is = opened c.lits.rest.now c.lit-item.result c.in-len1-up.len_at_least c.lit-item.is in record {
      fewer = λ q m. c.lits.invariant.fewer q (subst (λ r. OneOf q (map code r)) (sym is) (inr m));
      has = λ n h each. elim c.shorter-least.ensures [
        | inl e ↦ subst (λ (l : List ℕ). OneOf n l) (sym e) (c.lits.invariant.has n h each)
        | inr e ↦ subst (λ (l : List ℕ). OneOf n l) (sym (e ∙ c.with_lit.ensures)) (each _ (c.lits.invariant.fewer _ (subst (λ r. OneOf (code c.lit-item.result) (map code r)) (sym is) (inl refl))))
      ];
    }
