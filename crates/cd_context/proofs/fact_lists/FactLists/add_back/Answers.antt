use Rattle.std.proofs.Common.{subst}
use Rattle.cd_context.specs.contracts.facts.FactEq.TheImpl.Laws.{laws-law}
use Rattle.cd_context.specs.declared.facts.Fact.TheVariants.{Back}
use Rattle.cd_context.proofs.Ties.{Gains, ties_back}
use Rattle.cd_context.proofs.fact_lists.FactLists.add_back.Goals as goal

pub invariant_of-self-2 : goal.invariant_of-self-2
invariant_of-self-2 c =
    rw (c.push_reserved.ensures.items, c.in_ok-reserve.ensures.items)
    (ties_back laws-law c.self.inside.all.keys c.insert.new.self.keys _ c.self.invariant c.args.back.role c.args.back.key c.args.back.atom
    (subst (λ k. Gains c.self.inside.all.keys (Back c.args.back.role k c.args.back.atom) c.insert.new.self.keys) c.in_ok-copy.ensures c.in_ok-insert.ensures.updates.0))
