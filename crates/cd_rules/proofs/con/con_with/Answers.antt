use Rattle.cd_rules.proofs.ConNumbers.{with_left_try}
use Rattle.cd_rules.proofs.con.con_with.Goals as goal

pub con_by_each-requires-in-None-clause-numbers : goal.con_by_each-requires-in-None-clause-numbers
con_by_each-requires-in-None-clause-numbers c = with_left_try c.args.index.now.normal.n1 c.args.partners.now c.args.atom c.args.all.now c.requires.numbers c.requires.every
