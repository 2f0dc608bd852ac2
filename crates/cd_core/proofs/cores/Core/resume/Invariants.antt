use Rattle.std.proofs.Common.{◌≡◌, ◌++◌}
use Rattle.std.specs.Vec.Iter.{into_iter_items}
use Rattle.cd_core.proofs.cores.Core.resume.Given as goal

abbrev pub invariant-loop-cell : goal.invariant-loop-cell
invariant-loop-cell g l = record {
  can : (goal.iterator-loop-cell g).can_next l.cell-iterator;
  ends : (goal.iterator-loop-cell g).is_finite l.cell-iterator;
  is : l.pending ++ into_iter_items l.cell-iterator ≡ l.fn.start.items;
}
