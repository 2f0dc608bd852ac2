use Rattle.std.proofs.Common.{◌≡◌, ℕ, true, inl, inr}
use Rattle.cd_clause.specs.Covering.{is_as_strong}
use Rattle.cd_clause.specs.declared.elem.Elem.{Elem}
use Rattle.cd_store.specs.Filing.{IsUnderLast}
use Rattle.cd_store.specs.Coverings.{IsAtMost, IsCovering}
use Rattle.cd_store.proofs.Leasts.{walked, gone}
use Rattle.cd_store.proofs.coverings.least_by_elems.Goals as goal

pub elems-preserved : goal.elems-preserved
elems-preserved c = record {
  holds = c.least_among-least.ensures.holds;
  lower = λ n h. c.least_among-least.ensures.lower n (c.elems.invariant.lower n h);
  covers = walked (λ (f : Elem). (e : Elem) (n : ℕ) → is_as_strong e f ≡ true → IsUnderLast c.args.filing.now n e → IsCovering c.args.clauses.now c.args.live.now c.args.clause.now n → IsAtMost c.least_among-least.result n)
      c.args.clause.now c.elems.rest.now c.elem-item.result
      (λ f m. elim (c.elems.invariant.covers f m) [ inl k ↦ inl k | inr p ↦ inr (λ e n t u s. c.least_among-least.ensures.lower n (p e n t u s)) ])
      c.in-len1-up.len_at_least c.elem-item.is
      (λ e n t u s. c.least_among-least.ensures.covers n (c.ending_as_strong.ensures e n t u) s);
}

pub returns-clause-covers : goal.returns-clause-covers
returns-clause-covers c = λ f e n m t u s. elim (c.elems.invariant.covers f m) [ inl k ↦ absurd (gone c.elems.rest.now f c.in_default.len_below k) | inr p ↦ p e n t u s ]
