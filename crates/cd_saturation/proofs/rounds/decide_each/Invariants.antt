use Rattle.std.proofs.Common.{◌+◌, ◌++◌, ◌≤◌, ◌<◌, ℕ, length}
use Rattle.cd_base.specs.Lists.{OneOf}
use Rattle.cd_base.specs.declared.normal.Normal.{Normal}
use Rattle.cd_saturation.specs.Decided.{AreExactCells, IsDecided}
use Rattle.cd_saturation.specs.Groups.{key_of, weights}
use Rattle.cd_saturation.specs.Saturation.{HasBegun}
use Rattle.cd_saturation.specs.declared.group.Group.{Group}
use Rattle.cd_saturation.proofs.rounds.decide_each.Given as goal

abbrev pub invariant-asked : goal.invariant-asked
invariant-asked l = record {
  begun : (g : Group) → OneOf g l.rest → HasBegun l.count l.cells (key_of g.class g.names);
  classes : (g : Group) → OneOf g l.rest → g.class < length l.above.items;
  decides : (n : Normal) (classes : ℕ) → AreExactCells n l.cells → IsDecided n classes l.fn.above.items (l.fn.groups.items ++ l.asked) → IsDecided n classes l.above.items (l.groups.items ++ l.rest);
  lighter : (weights l.groups.items + weights l.rest) + length l.asked ≤ (weights l.fn.groups.items + weights l.asked) + length l.rest;
}

abbrev pub decreases-asked : goal.decreases-asked
decreases-asked l = length l.rest
