use Rattle.std.proofs.Common.{length}
use Rattle.cd_rules.specs.Parts.{IsRightOf}
use Rattle.cd_rules.specs.Among.{Among}
use Rattle.cd_base.proofs.Appending.{HasWalked}
use Rattle.cd_rules.proofs.init.free.Given as goal

abbrev pub invariant-axioms : goal.invariant-axioms
invariant-axioms l = HasWalked Among (IsRightOf l.axioms) l.initial.rest l.rest l.fn.out.items l.out.items

abbrev pub decreases-axioms : goal.decreases-axioms
decreases-axioms l = length l.rest
