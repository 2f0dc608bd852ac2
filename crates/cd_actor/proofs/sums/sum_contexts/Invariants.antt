use Rattle.std.proofs.Common.{◌≡◌, take}
use Rattle.cd_actor.specs.Cells.{total}
use Rattle.cd_actor.proofs.sums.sum_contexts.Given as goal

abbrev pub invariant-loop-cell : goal.invariant-loop-cell
invariant-loop-cell g l = l.sum ≡ total g.A.Actor.meaning.contexts (take l.cell-index l.cells)
