use Rattle.std.proofs.Common.{refl}
use Rattle.cd_rules.proofs.Alls.{atom_instead, with_exist}
use Rattle.cd_rules.proofs.Greatest.{is_eligible, is_only, beside}
use Rattle.cd_rules.proofs.Pushed.{unpushed}
use Rattle.cd_rules.proofs.all.all_with_exist.Goals as goal

pub returns-in-Plain : goal.returns-in-Plain
returns-in-Plain c =
    let n = c.args.index.now.normal in let clause = c.args.clause.now in let x = c.index-elems-i.result in
    unpushed _ _ _ _ refl (λ h. atom_instead n c.args.triples.now c.args.others.now clause x c.in-Plain.field-0
    (is_only n c.normal.result.now clause c.elems.result.now c.in-Some.i x c.normal.ensures c.in-Some.ensures c.elems.ensures.elems c.index-elems-i.is) c.in-Plain.is)

pub returns-in_ok-without-in-Exist : goal.returns-in_ok-without-in-Exist
returns-in_ok-without-in-Exist c =
    let n = c.args.index.now.normal in let clause = c.args.clause.now in let x = c.index-elems-i.result in
    with_exist n c.args.triples.now c.args.others.now clause x c.in-Exist.role c.in-Exist.key c.in_ok-without-in-Exist.field-0
    (is_only n c.normal.result.now clause c.elems.result.now c.in-Some.i x c.normal.ensures c.in-Some.ensures c.elems.ensures.elems c.index-elems-i.is)
    (is_eligible n c.normal.result.now clause c.elems.result.now c.in-Some.i x c.normal.ensures c.in-Some.ensures c.elems.ensures.elems c.index-elems-i.is)
    c.in-Exist.is
    (beside n c.normal.result.now clause c.elems.result.now c.in-Some.i x c.normal.ensures c.in-Some.ensures c.elems.ensures.elems c.index-elems-i.is
    c.elems.ensures.ascends c.in_ok-without-in-Exist.field-0 c.in_ok-without-in-Exist.ensures)
    c.all_by-in-Exist.ensures
