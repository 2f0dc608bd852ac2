use Rattle.std.proofs.Common.{◌≡◌, ◌++◌, length}
use Rattle.cd_saturation.specs.Groups.{starts_of}
use Rattle.cd_saturation.proofs.groups.list_starts.Given as goal

abbrev pub invariant-groups : goal.invariant-groups
invariant-groups l = l.start.items ++ starts_of l.count l.rest ≡ l.fn.start.items ++ starts_of l.count l.groups

abbrev pub decreases-groups : goal.decreases-groups
decreases-groups l = length l.rest
