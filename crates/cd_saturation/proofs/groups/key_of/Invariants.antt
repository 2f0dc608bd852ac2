use Rattle.std.proofs.Common.{◌≡◌, length}
use Rattle.cd_saturation.specs.Groups.{key_of, with_negated}
use Rattle.cd_saturation.proofs.groups.key_of.Given as goal

abbrev pub invariant-names : goal.invariant-names
invariant-names l = with_negated l.key l.rest ≡ key_of l.group.class l.group.names

abbrev pub decreases-names : goal.decreases-names
decreases-names l = length l.rest
