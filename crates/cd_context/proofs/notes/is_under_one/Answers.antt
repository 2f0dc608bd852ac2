use Rattle.std.proofs.Common.{refl, subst, inl, inr}
use Rattle.std.proofs.lemmas.Bool.{both_ways, false≢true}
use Rattle.cd_base.specs.Lists.{OneOf}
use Rattle.cd_base.specs.Normal.{Under}
use Rattle.cd_base.specs.declared.normal.Triple.{Triple}
use Rattle.cd_clause.proofs.Walks.{closed, head_is, opened, tail_within}
use Rattle.cd_context.proofs.notes.is_under_one.Goals as goal

pub returns-then-is_under : goal.returns-then-is_under
returns-then-is_under c = (
  λ t. (
    c.axiom-item.result,
    c.axioms.invariant.within c.axiom-item.result (head_is c.axioms.rest.now c.axiom-item.result c.in-len1-up.len_at_least c.axiom-item.is),
    c.is_under.ensures.0 c.if-is_under.true,
  ),
  λ u. refl,
)

pub axioms-preserved : goal.axioms-preserved
axioms-preserved c = record {
  within = λ x m. c.axioms.invariant.within x (tail_within c.axioms.rest.now c.axiom-item.result c.in-len1-up.len_at_least c.axiom-item.is x m);
  left = λ u.
      let w = c.axioms.invariant.left u in
      elim (subst (OneOf w.0) (opened c.axioms.rest.now c.axiom-item.result c.in-len1-up.len_at_least c.axiom-item.is) w.1) [
        | inl e ↦ absurd (both_ways c.is_under.result c.if-is_under.false (c.is_under.ensures.1 (subst (λ (t : Triple). Under c.args.index.now.normal.n5 c.args.role t.role) e w.2)))
        | inr k ↦ (w.0, k, w.2)
      ];
}

pub returns : goal.returns
returns c = (
  λ t. absurd (false≢true t),
  λ u. (let w = c.axioms.invariant.left u in absurd (subst (OneOf w.0) (closed c.axioms.rest.now c.in_default.len_below) w.1)),
)
