use Rattle.cd_rules.proofs.EligibleAtoms.{exist_above}
use Rattle.cd_rules.proofs.atoms.greatest_atom.Goals as goal

pub returns-then-has_existential : goal.returns-then-has_existential
returns-then-has_existential c = λ a. exist_above c.args.normal.now a c.args.clause.now (c.has_existential.ensures.0 c.if-has_existential.true)
