use Rattle.cd_rules.proofs.EligibleAtoms.{exist_last, last_place}
use Rattle.cd_rules.proofs.atoms.has_existential.Goals as goal

pub returns-then-not-is_empty : goal.returns-then-not-is_empty
returns-then-not-is_empty c = exist_last c.args.clause.now c.elems-elems.result.now _ c.index-elems-elems.result c.is_existential.result
    c.elems-elems.ensures.elems c.elems-elems.ensures.ascends (last_place c.elems-elems.result.now c.is_empty.result c.is_empty.ensures c.if-not-is_empty.true)
    c.index-elems-elems.is c.is_existential.ensures
