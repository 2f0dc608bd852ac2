use Rattle.std.proofs.Common.{◌≡◌, ◌+◌, ◌*◌, length, sum_by, take, map}
use Rattle.cd_meaning.specs.Nodes.{nodes_of}
use Rattle.cd_normal.specs.Made.{form, IsUseEach, IsGrownBy}
use Rattle.cd_normal.proofs.uses.+used.Given as goal

abbrev pub invariant-used_each-loop-part : goal.invariant-used_each-loop-part
invariant-used_each-loop-part l = record {
  uses : IsUseEach l.classes l.initial.maker l.maker l.sign (map (form l.flipped) (take l.part-index l.parts)) l.made.items;
  as_many : length l.made.items ≡ l.part-index;
  grown : IsGrownBy l.initial.maker l.maker l.sign l.part-index (sum_by nodes_of (take l.part-index l.parts));
}

abbrev pub decreases-used : goal.decreases-used
decreases-used l = 2 * nodes_of l.e.now

abbrev pub decreases-universal : goal.decreases-universal
decreases-universal l = 2 * nodes_of l.part.now + 1

abbrev pub decreases-used_each : goal.decreases-used_each
decreases-used_each l = 2 * sum_by nodes_of l.parts.now + 1
