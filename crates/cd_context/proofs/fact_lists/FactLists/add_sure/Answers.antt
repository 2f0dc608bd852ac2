use Rattle.std.proofs.Common.{subst}
use Rattle.cd_context.specs.contracts.facts.FactEq.TheImpl.Laws.{laws-law}
use Rattle.cd_context.specs.declared.facts.Fact.TheVariants.{Sure}
use Rattle.cd_context.proofs.Ties.{Gains, ties_sure}
use Rattle.cd_context.proofs.fact_lists.FactLists.add_sure.Goals as goal

pub invariant_of-self-2 : goal.invariant_of-self-2
invariant_of-self-2 c =
    rw (c.push_reserved.ensures.items, c.in_ok-reserve.ensures.items)
    (ties_sure laws-law c.self.inside.all.keys c.insert.new.self.keys _ c.self.invariant c.args.sure.role c.args.sure.key c.args.sure.atom
    (subst (λ k. Gains c.self.inside.all.keys (Sure c.args.sure.role k c.args.sure.atom) c.insert.new.self.keys) c.in_ok-copy.ensures c.in_ok-insert.ensures.updates.0))
