use Rattle.std.proofs.Common.{refl, arith}
use Rattle.std.proofs.lemmas.Grind.{common_steps}
use Rattle.cd_rules.proofs.Alls.{exist_instead, no_axioms, with_atom}
use Rattle.cd_rules.proofs.Greatest.{is_eligible, is_only, beside}
use Rattle.cd_rules.proofs.Pushed.{unpushed}
use Rattle.cd_rules.proofs.all.all_with_atom.Goals as goal

pub returns-in-Exist : goal.returns-in-Exist
returns-in-Exist c =
    let n = c.args.index.now.normal in let clause = c.args.clause.now in let x = c.index-elems-i.result in
    unpushed _ _ _ _ refl (λ h. exist_instead n c.args.role c.args.key.now c.args.others.now clause x c.in-Exist.field-0 c.in-Exist.field-1
    (is_only n c.normal.result.now clause c.elems.result.now c.in-Some.i x c.normal.ensures c.in-Some.ensures c.elems.ensures.elems c.index-elems-i.is) c.in-Exist.is)

pub returns-then-is_empty : goal.returns-then-is_empty
returns-then-is_empty c =
    let n = c.args.index.now.normal in let clause = c.args.clause.now in let x = c.index-elems-i.result in
    unpushed _ _ _ _ refl (λ h. no_axioms n c.args.role c.args.key.now c.args.others.now clause x c.in-Plain.atom c.alls-triples.result.now
    (is_only n c.normal.result.now clause c.elems.result.now c.in-Some.i x c.normal.ensures c.in-Some.ensures c.elems.ensures.elems c.index-elems-i.is)
    c.in-Plain.is c.alls-triples.ensures (grind (arith, common_steps)))

pub returns-in_ok-without-in-Plain : goal.returns-in_ok-without-in-Plain
returns-in_ok-without-in-Plain c =
    let n = c.args.index.now.normal in let clause = c.args.clause.now in let x = c.index-elems-i.result in
    with_atom n c.args.role c.args.key.now c.args.others.now clause x c.in-Plain.atom c.alls-triples.result.now
    (is_only n c.normal.result.now clause c.elems.result.now c.in-Some.i x c.normal.ensures c.in-Some.ensures c.elems.ensures.elems c.index-elems-i.is)
    c.in-Plain.is c.alls-triples.ensures c.in_ok-without-in-Plain.field-0
    (is_eligible n c.normal.result.now clause c.elems.result.now c.in-Some.i x c.normal.ensures c.in-Some.ensures c.elems.ensures.elems c.index-elems-i.is)
    (beside n c.normal.result.now clause c.elems.result.now c.in-Some.i x c.normal.ensures c.in-Some.ensures c.elems.ensures.elems c.index-elems-i.is
    c.elems.ensures.ascends c.in_ok-without-in-Plain.field-0 c.in_ok-without-in-Plain.ensures)
    c.all_by-in-Plain.ensures
