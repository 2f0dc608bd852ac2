use Rattle.std.proofs.Common.{◌-◌}
use Rattle.cd_rules.proofs.ConPartners.{AreEnds}
use Rattle.cd_rules.proofs.partners.are_at_hand.Given as goal

abbrev pub invariant-places : goal.invariant-places
invariant-places l = AreEnds l.atoms l.partners l.fn.atom l.low l.high

abbrev pub decreases-places : goal.decreases-places
decreases-places l = l.high - l.low
