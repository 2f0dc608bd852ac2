use Rattle.std.proofs.lemmas.Result.{IfOk-weaker}
use Rattle.cd_rules.proofs.EligibleAtoms.{without_none, without_place}
use Rattle.cd_rules.proofs.atoms.without_atom.Goals as goal

pub returns-in-None : goal.returns-in-None
returns-in-None c = IfOk-weaker c.copy.result _ _ (λ others e. without_none c.args.atom c.args.clause.now c.elems.result.now others c.elems.ensures.elems c.in-None.ensures e) c.copy.ensures

pub returns-in-Some : goal.returns-in-Some
returns-in-Some c = IfOk-weaker c.without.result _ _
    (λ others e. without_place c.args.atom c.args.clause.now c.elems.result.now others c.in-Some.i c.elems.ensures.elems c.elems.ensures.ascends c.in-Some.ensures.0 c.in-Some.ensures.1 e) c.without.ensures
