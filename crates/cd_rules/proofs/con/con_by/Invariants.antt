use Rattle.cd_rules.proofs.ConPlaces.{OfPlace}
use Rattle.cd_rules.proofs.Counted.{HasCounted}
use Rattle.cd_rules.proofs.con.con_by.Given as goal

abbrev pub invariant-places : goal.invariant-places
invariant-places l = HasCounted (OfPlace l.clauses l.partners l.conj l.fn.atom l.others) l.j l.fn.out.items l.out.items
