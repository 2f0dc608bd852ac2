use Rattle.std.proofs.Common.{length}
use Rattle.cd_rules.specs.Parts.{IsExBy}
use Rattle.cd_rules.specs.Among.{Among}
use Rattle.cd_base.proofs.Appending.{HasWalked}
use Rattle.cd_rules.proofs.ex.ex.Given as goal

abbrev pub invariant-axioms : goal.invariant-axioms
invariant-axioms l = HasWalked Among (λ t. IsExBy t l.others) l.initial.rest l.rest l.fn.out.items l.out.items

abbrev pub decreases-axioms : goal.decreases-axioms
decreases-axioms l = length l.rest
