use Rattle.cd_saturation.specs.Decided.{IsDecided}
use Rattle.cd_saturation.specs.Groups.{weights}
use Rattle.cd_saturation.specs.Saturation.{AreRun}
use Rattle.cd_saturation.proofs.rounds.decide_rounds.Given as goal

abbrev pub invariant-rounds : goal.invariant-rounds
invariant-rounds l = record {
  run : AreRun l.index.normal l.limits.cells l.classes l.cells.items;
  decided : IsDecided l.index.normal l.classes l.above.items l.groups.items;
}

abbrev pub decreases-rounds : goal.decreases-rounds
decreases-rounds l = weights l.groups.items
