use Rattle.std.proofs.Common.{◌-◌, List, arith, subst}
use Rattle.cd_clause.specs.declared.elem.Elem.{Elem}
use Rattle.cd_rules.specs.Partners.{AreThose, IsJoinBy}
use Rattle.cd_rules.specs.Walks.{ByOne}
use Rattle.cd_rules.proofs.Unions.{through_all, through_more, through_none}
use Rattle.cd_rules.proofs.con.unions.Goals as goal

pub atoms-init : goal.atoms-init
atoms-init c = through_none c.args.clauses.now c.args.partners.now c.args.base.now c.args.atoms.now c.in_ok-copy.field-0 c.new-found.result.items c.push.new.self.items
    c.in_ok-copy.ensures c.new-found.ensures.items c.in_ok-push.ensures.items

pub atoms-preserved : goal.atoms-preserved
atoms-preserved c =
    through_more c.args.clauses.now c.args.partners.now c.args.base.now c.args.atoms.now (c.atoms.j - 1) c.atoms.j c.index-atoms-j.result c.atoms.found.items c.in_ok-more.more.items
    (omega (arith, c.atoms-test.true)) c.index-atoms-j.is c.atoms.invariant
    (subst (λ (l : List (List Elem)). AreThose (ByOne (IsJoinBy c.args.clauses.now c.index-atoms-j.result l) c.args.partners.now) c.in_ok-more.more.items) c.as_slice.ensures.value c.in_ok-more.ensures)

pub returns : goal.returns
returns c = through_all c.args.clauses.now c.args.partners.now c.args.base.now c.args.atoms.now c.atoms.j c.atoms.found.items (omega (arith, c.atoms-test.false)) c.atoms.invariant
