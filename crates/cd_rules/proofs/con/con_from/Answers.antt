use Rattle.std.proofs.Common.{List, length, map, sym, ◌∙◌, subst, eqb-true}
use Rattle.std.specs.Result.{IsOk}
use Rattle.std.proofs.lemmas.List.{nil_from_length}
use Rattle.cd_base.specs.Appends.{Appends}
use Rattle.cd_clause.specs.declared.elem.Elem.{Elem}
use Rattle.cd_clause.specs.declared.elem.Elem.TheVariants.{Plain}
use Rattle.cd_rules.specs.Among.{Among}
use Rattle.cd_rules.specs.Partners.{IsJoin}
use Rattle.cd_rules.specs.Walks.{ByOne}
use Rattle.cd_rules.proofs.Unions.{base_concludes, unions_conclude}
use Rattle.cd_rules.proofs.con.con_from.Goals as goal

pub returns-then-is_empty : goal.returns-then-is_empty
returns-then-is_empty c = base_concludes c.args.clauses.now c.args.partners.now c.args.base.now c.args.taken.now c.args.right.now (IsOk c.conclude.result) c.args.out.now.items c.conclude.new.out.items
    (nil_from_length c.args.taken.now (eqb-true (length c.args.taken.now) 0 (sym c.is_empty.ensures ∙ c.if-is_empty.true))) c.conclude.ensures

pub returns : goal.returns
returns c = unions_conclude c.args.clauses.now c.args.partners.now c.args.base.now c.args.taken.now c.args.right.now c.in_ok-bases.bases.items (IsOk c.conclude_each.result) c.args.out.now.items
    c.conclude_each.new.out.items c.in_ok-bases.ensures
    (subst (λ (l : List (List Elem)). Appends Among (ByOne (IsJoin (map Plain c.args.right.now)) l) (IsOk c.conclude_each.result) c.args.out.now.items c.conclude_each.new.out.items) c.as_slice.ensures.value c.conclude_each.ensures)
