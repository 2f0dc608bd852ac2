use Rattle.std.proofs.lemmas.Bool.{both_ways}
use Rattle.cd_clause.specs.declared.elem.Elem.TheVariants.{Exist}
use Rattle.cd_rules.proofs.Greatest.{is_eligible, is_only, beside, found_greatest, other_greatest}
use Rattle.cd_rules.proofs.existential.rest_beside.Goals as goal

pub returns-then-not-is_exist : goal.returns-then-not-is_exist
returns-then-not-is_exist c =
    let n = c.args.index.now.normal in let clause = c.args.clause.now in let x = c.index-elems-i.result in
    other_greatest n clause x (Exist c.args.role c.args.key.now)
    (is_only n c.normal.result.now clause c.elems.result.now c.in-Some.i x c.normal.ensures c.in-Some.ensures c.elems.ensures.elems c.index-elems-i.is)
    (λ e. both_ways c.is_exist.result c.if-not-is_exist.true (c.is_exist.ensures.1 e))

pub returns : goal.returns
returns c =
    let n = c.args.index.now.normal in let clause = c.args.clause.now in let x = c.index-elems-i.result in
    found_greatest n clause c.in_ok-without.field-0 x (Exist c.args.role c.args.key.now) (c.is_exist.ensures.0 c.if-not-is_exist.false)
    (is_eligible n c.normal.result.now clause c.elems.result.now c.in-Some.i x c.normal.ensures c.in-Some.ensures c.elems.ensures.elems c.index-elems-i.is)
    (beside n c.normal.result.now clause c.elems.result.now c.in-Some.i x c.normal.ensures c.in-Some.ensures c.elems.ensures.elems c.index-elems-i.is
    c.elems.ensures.ascends c.in_ok-without.field-0 c.in_ok-without.ensures)
