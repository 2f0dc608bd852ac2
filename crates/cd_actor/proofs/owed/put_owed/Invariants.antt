use Rattle.std.proofs.Common.{◌≡◌, ◌++◌, take}
use Rattle.cd_actor.specs.Sends.{sent}
use Rattle.cd_actor.specs.Owed.{IsOwedInTurn}
use Rattle.cd_actor.proofs.owed.put_owed.Given as goal

abbrev pub invariant-loop-cell : goal.invariant-loop-cell
invariant-loop-cell g l = record {
  follows : l.pending ≡ l.initial.pending ++ sent l.initial.pending l.pending;
  owed : IsOwedInTurn g.A.Actor.meaning l.cells (take l.cell-index l.cells) (sent l.initial.pending l.pending);
}
