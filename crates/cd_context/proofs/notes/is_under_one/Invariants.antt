use Rattle.std.proofs.Common.{length}
use Rattle.cd_base.specs.Lists.{Within}
use Rattle.cd_context.specs.OwedParts.{IsUnderOne}
use Rattle.cd_context.proofs.notes.is_under_one.Given as goal

abbrev pub invariant-axioms : goal.invariant-axioms
invariant-axioms l = record {
  within : Within l.rest l.fn.axioms;
  left : IsUnderOne l.index.normal l.fn.axioms l.role → IsUnderOne l.index.normal l.rest l.role;
}

abbrev pub decreases-axioms : goal.decreases-axioms
decreases-axioms l = length l.rest
