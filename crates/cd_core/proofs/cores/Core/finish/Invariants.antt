use Rattle.std.proofs.Common.{◌≡◌, ◌+◌, ◌-◌, ◌⊎◌}
use Rattle.cd_actor.specs.Cells.{total}
use Rattle.cd_core.specs.Ends.{IsOneDeliveryPast}
use Rattle.cd_actor.specs.Settled.{KeepsFamily, KeepsHad}
use Rattle.cd_core.specs.State.{Runs, KeepsAll}
use Rattle.cd_core.proofs.cores.Core.finish.Given as goal

abbrev pub invariant-rounds : goal.invariant-rounds
invariant-rounds g l = record {
  runs : Runs g.A.Actor.meaning l.cells.items l.pending;
  keeps : KeepsAll g.A.Actor.meaning l.initial.cells.items l.initial.pending l.cells.items l.pending;
  had : KeepsHad g.A.Actor.meaning l.initial.cells.items l.cells.items;
  family : KeepsFamily g.A.Actor.meaning l.initial.cells.items l.cells.items;
  contexts : l.contexts ≡ total g.A.Actor.meaning.contexts l.cells.items;
  facts : l.facts ≡ total g.A.Actor.meaning.facts l.cells.items;
  at_once : (l.cells.items ≡ l.initial.cells.items) ⊎ IsOneDeliveryPast g.A.Actor.meaning l.initial.cells.items l.limits.max_contexts l.limits.max_facts l.cells.items;
}

abbrev pub decreases-rounds : goal.decreases-rounds
decreases-rounds g l = (l.limits.max_contexts - l.contexts) + (l.limits.max_facts - l.facts)
