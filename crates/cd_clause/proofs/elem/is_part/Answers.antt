use Rattle.cd_clause.proofs.Strengths.{no_part, part_is}
use Rattle.cd_clause.proofs.elem.is_part.Goals as goal

pub returns-then-lits : goal.returns-then-lits
returns-then-lits c = no_part c.args.small.now c.args.large.now c.lits-2.result.now c.lits.result.now c.lits-2.ensures.codes c.lits.ensures.codes c.if-lits.true

pub returns : goal.returns
returns c = part_is c.args.small.now c.args.large.now c.is_within.result c.lits-2.ensures.ascends c.lits.ensures.ascends c.is_within.ensures
