use Rattle.std.proofs.Common.{length}
use Rattle.cd_rules.specs.Parts.{IsInitBy}
use Rattle.cd_rules.specs.Among.{Among}
use Rattle.cd_base.proofs.Appending.{HasWalked}
use Rattle.cd_rules.proofs.init.init.Given as goal

abbrev pub invariant-lits : goal.invariant-lits
invariant-lits l = HasWalked Among IsInitBy l.initial.rest l.rest l.fn.out.items l.out.items

abbrev pub decreases-lits : goal.decreases-lits
decreases-lits l = length l.rest
