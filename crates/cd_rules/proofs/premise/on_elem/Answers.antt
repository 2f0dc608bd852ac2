use Rattle.cd_rules.proofs.premise.on_elem.Goals as goal

pub returns-in-Plain : goal.returns-in-Plain
returns-in-Plain c = rw c.in-Plain.is c.on_atom.ensures

pub returns-in-Exist : goal.returns-in-Exist
returns-in-Exist c = rw c.in-Exist.is c.on_exist.ensures
