use Rattle.std.proofs.Common.{◌≡◌, true, sym, ◌∙◌, subst, inl, inr}
use Rattle.cd_base.specs.Lists.{OneOf}
use Rattle.cd_clause.specs.Covering.{is_lower}
use Rattle.cd_clause.proofs.Walks.{opened, tail_within}
use Rattle.cd_clause.proofs.covering.not_lower.Goals as goal

pub loop-rest-preserved : goal.loop-rest-preserved
loop-rest-preserved c = record {
  fewer = λ x m. c.loop-rest.invariant.fewer x (tail_within c.loop-rest.rest.now c.first-item.result c.in-len1-up.len_at_least c.first-item.is x m);
  lower = λ f m. elim (c.loop-rest.invariant.lower f m) [
    | inl k ↦ elim (subst (λ l. OneOf f l) (opened c.loop-rest.rest.now c.first-item.result c.in-len1-up.len_at_least c.first-item.is) k) [
      | inl e ↦ inr (subst (λ g. is_lower g c.args.elem.now ≡ true) (sym e) (sym c.is_lower.ensures ∙ c.if-not-is_lower.false))
      | inr n ↦ inl n
    ]
    | inr t ↦ inr t
  ];
}
