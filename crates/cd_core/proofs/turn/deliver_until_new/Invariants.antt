use Rattle.std.proofs.Common.{◌≡◌, length}
use Rattle.cd_actor.specs.Cells.{total}
use Rattle.cd_actor.specs.Settled.{KeepsFamily, KeepsHad}
use Rattle.cd_core.specs.State.{Runs, KeepsAll}
use Rattle.cd_core.proofs.turn.deliver_until_new.Given as goal

abbrev pub invariant-turns : goal.invariant-turns
invariant-turns g l = record {
  runs : Runs g.A.Actor.meaning l.cells.items l.pending;
  keeps : KeepsAll g.A.Actor.meaning l.fn.cells.items l.fn.pending l.cells.items l.pending;
  had : KeepsHad g.A.Actor.meaning l.fn.cells.items l.cells.items;
  family : KeepsFamily g.A.Actor.meaning l.fn.cells.items l.cells.items;
  contexts : l.contexts ≡ total g.A.Actor.meaning.contexts l.cells.items;
  facts : l.facts ≡ total g.A.Actor.meaning.facts l.cells.items;
  same_contexts : l.contexts ≡ l.contexts_before;
  same_facts : l.facts ≡ l.facts_before;
}

abbrev pub decreases-turns : goal.decreases-turns
decreases-turns g l = length l.pending
