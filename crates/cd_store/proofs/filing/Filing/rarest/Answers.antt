use Rattle.std.proofs.Common.{◌∷◌, map, sym, subst, inl, inr, refl}
use Rattle.cd_base.specs.Keys.{code}
use Rattle.cd_base.specs.Lists.{OneOf}
use Rattle.cd_clause.proofs.Walks.{opened}
use Rattle.cd_store.proofs.filing.Filing.rarest.Goals as goal

pub lits-preserved : goal.lits-preserved
lits-preserved c =
    let is = opened c.lits.rest.now c.lit-item.result c.in-len1-up.len_at_least c.lit-item.is in record {
      fewer = λ q m. c.lits.invariant.fewer q (subst (λ r. OneOf q (map code r)) (sym is) (inr m));
      isin = elim c.rarer-rarest.ensures [
        | inl e ↦ subst (λ w. OneOf (code w) (code c.args.first ∷ map code c.args.others.now)) (sym e) c.lits.invariant.isin
        | inr e ↦ subst (λ w. OneOf (code w) (code c.args.first ∷ map code c.args.others.now)) (sym e)
            (inr (c.lits.invariant.fewer _ (subst (λ r. OneOf (code c.lit-item.result) (map code r)) (sym is) (inl refl))))
      ];
    }
