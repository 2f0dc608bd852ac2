use Rattle.cd_base.specs.declared.normal.Normal.{Normal}
use Rattle.cd_saturation.specs.Decided.{AreExactCells, IsDecided}
use Rattle.cd_saturation.proofs.readings.read_classes.Given as goal

abbrev pub invariant-loop-class : goal.invariant-loop-class
invariant-loop-class l = (n : Normal) → AreExactCells n l.cells → IsDecided n l.class l.above.items l.groups.items
