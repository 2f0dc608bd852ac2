use Rattle.std.proofs.Common.{◌∙◌, ap, filter, List, ℕ, inl, inr, subst}
use Rattle.std.proofs.lemmas.Result.{IfOk-weaker}
use Rattle.cd_base.specs.Keys.{is_named}
use Rattle.cd_base.specs.Lists.{OneOf}
use Rattle.cd_context.proofs.OpenNames.{open_named}
use Rattle.cd_context.proofs.open.open_names.Goals as goal

pub returns : goal.returns
returns c = IfOk-weaker c.named_among-names.result _ _ (λ names e.
    open_named c.args.normal.now c.args.clauses.now c.args.live.now c.push_all_open.new.atoms.items c.put_in_order.new.numbers.items names.items
    (λ b. (
      λ m. elim ((c.in_ok-push_all_open.ensures b).0 m) [ inl k ↦ absurd (subst (OneOf b) c.new-atoms.ensures.items k) | inr s ↦ s ],
      λ s. (c.in_ok-push_all_open.ensures b).1 (inr s),
    ))
    c.put_in_order.ensures (e ∙ ap (λ (l : List ℕ). filter (is_named c.args.normal.now) l) c.deref.ensures.value))
    c.named_among-names.ensures
