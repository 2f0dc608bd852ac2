use Rattle.std.proofs.Common.{ℕ, List, ◌↔◌, eqb, sym, subst}
use Rattle.std.specs.List.Sorted.{IsStrictlyIncreasing}
use Rattle.std.proofs.lemmas.List.Filters.{dedup_is}
use Rattle.std.proofs.lemmas.Map.Keys.{IsStrictlyIncreasing-dedup}
use Rattle.cd_base.specs.Lists.{OneOf}
use Rattle.cd_rules.proofs.Tried.{once_each}
use Rattle.cd_context.proofs.live.put_in_order.Goals as goal

pub returns-clause-same : goal.returns-clause-same
returns-clause-same c = λ b.
    subst (λ (l : List ℕ). OneOf b l ↔ OneOf b c.args.atoms.now.items) (sym (dedup_is eqb _ _ c.dedup.ensures.filtered))
    (once_each c.args.atoms.now.items c.sort_unstable.new.self.items c.sort_unstable.ensures.permutation b)

pub returns-clause-ascends : goal.returns-clause-ascends
returns-clause-ascends c =
    subst (λ (l : List ℕ). IsStrictlyIncreasing l) (sym (dedup_is eqb _ _ c.dedup.ensures.filtered)) (IsStrictlyIncreasing-dedup _ c.sort_unstable.ensures.sorted)
