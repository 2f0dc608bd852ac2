use Rattle.cd_rules.proofs.Unions.{IsThrough}
use Rattle.cd_rules.proofs.con.unions.Given as goal

abbrev pub invariant-atoms : goal.invariant-atoms
invariant-atoms l = IsThrough l.clauses l.partners l.base l.fn.atoms l.j l.found.items

abbrev pub decreases-atoms : goal.decreases-atoms
decreases-atoms l = l.j
