use Rattle.std.proofs.Common.{subst}
use Rattle.cd_context.specs.contracts.facts.FactEq.TheImpl.Laws.{laws-law}
use Rattle.cd_context.specs.declared.facts.Fact.TheVariants.{Dead}
use Rattle.cd_context.proofs.Ties.{Gains, ties_dead}
use Rattle.cd_context.proofs.fact_lists.FactLists.add_dead.Goals as goal

pub invariant_of-self-2 : goal.invariant_of-self-2
invariant_of-self-2 c =
    rw (c.push_reserved.ensures.items, c.in_ok-reserve.ensures.items)
    (ties_dead laws-law c.self.inside.all.keys c.insert.new.self.keys _ c.self.invariant c.args.dead.role c.args.dead.key
    (subst (λ k. Gains c.self.inside.all.keys (Dead c.args.dead.role k) c.insert.new.self.keys) c.in_ok-copy.ensures c.in_ok-insert.ensures.updates.0))
