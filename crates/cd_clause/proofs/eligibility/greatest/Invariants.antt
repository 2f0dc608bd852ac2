use Rattle.cd_clause.proofs.Eligibles.{IsBest}
use Rattle.cd_clause.proofs.eligibility.greatest.Given as goal

abbrev pub invariant-places : goal.invariant-places
invariant-places l = IsBest l.normal l.clause l.best l.i
