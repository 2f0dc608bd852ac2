use Rattle.cd_rules.proofs.Tried.{AreNarrow}
use Rattle.cd_rules.proofs.candidates.has_wide.Given as goal

abbrev pub invariant-numbers : goal.invariant-numbers
invariant-numbers l = AreNarrow l.axioms l.numbers l.i
