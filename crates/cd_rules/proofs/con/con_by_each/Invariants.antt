use Rattle.cd_rules.proofs.ConNumbers.{OfNumber}
use Rattle.cd_rules.proofs.Counted.{HasCounted}
use Rattle.cd_rules.proofs.con.con_by_each.Given as goal

abbrev pub invariant-numbers : goal.invariant-numbers
invariant-numbers l = HasCounted (OfNumber l.index.normal.n1 l.clauses l.partners l.numbers l.atom l.others) l.i l.fn.out.items l.out.items
