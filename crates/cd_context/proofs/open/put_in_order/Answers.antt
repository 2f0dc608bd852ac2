use Rattle.std.proofs.Common.{ℕ, List, ◌↔◌, eqb, sym, subst}
use Rattle.std.proofs.lemmas.List.Filters.{dedup_is}
use Rattle.cd_base.specs.Lists.{OneOf}
use Rattle.cd_rules.proofs.Tried.{once_each}
use Rattle.cd_context.proofs.open.put_in_order.Goals as goal

pub returns : goal.returns
returns c = λ b.
    subst (λ (l : List ℕ). OneOf b l ↔ OneOf b c.args.numbers.now.items) (sym (dedup_is eqb _ _ c.dedup.ensures.filtered))
    (once_each c.args.numbers.now.items c.sort_unstable.new.self.items c.sort_unstable.ensures.permutation b)
