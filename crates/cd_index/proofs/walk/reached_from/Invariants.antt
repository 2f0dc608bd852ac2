use Rattle.std.proofs.Common.{◌-◌, length}
use Rattle.cd_index.proofs.Reached.{IsUnderWay}
use Rattle.cd_index.proofs.walk.reached_from.Given as goal

abbrev pub invariant-loop-next : goal.invariant-loop-next
invariant-loop-next l = IsUnderWay l.told l.role l.next l.reached.keys

abbrev pub decreases-loop-next : goal.decreases-loop-next
decreases-loop-next l = length l.told - l.next
