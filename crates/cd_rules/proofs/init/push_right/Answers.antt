use Rattle.std.proofs.Common.{◌≡◌, true, List, ℕ, map, subst, sym, ◌∙◌}
use Rattle.std.specs.Result.{IsOk}
use Rattle.cd_base.specs.Lists.{SameSet}
use Rattle.cd_clause.specs.declared.elem.Elem.TheVariants.{Plain}
use Rattle.cd_rules.specs.Parts.{IsRightOf, right_of}
use Rattle.cd_rules.proofs.Inits.{right_is}
use Rattle.cd_rules.proofs.Pushed.{failed, pushed, unpushed}
use Rattle.cd_rules.proofs.init.push_right.Goals as goal

pub returns-in_err-push : goal.returns-in_err-push
returns-in_err-push c =
    unpushed (IsRightOf c.args.axioms.now c.args.number) (IsOk c.from_residual-in_err-push.result) c.args.out.now.items c.push.new.self.items
    c.in_err-push.ensures.items (λ h d p. failed c.from_residual-in_err-push.result c.from_residual-in_err-push.ensures.0 h)

pub returns : goal.returns
returns c =
    let right : c.items.result.now ≡ right_of c.args.axioms.now c.args.number
    = c.items.ensures ∙ sym (right_is c.args.axioms.now c.args.number c.index-axioms-number.result c.requires) in
    pushed (IsRightOf c.args.axioms.now c.args.number) (true ≡ true) c.args.out.now.items c.push.new.self.items c.in_ok-atoms_clause.field-0
    (map Plain (right_of c.args.axioms.now c.args.number)) c.in_ok-push.ensures.items
    (subst (λ (atoms : List ℕ). SameSet c.in_ok-atoms_clause.field-0 (map Plain atoms)) right c.in_ok-atoms_clause.ensures)
    (λ d s. s) (λ h d s. s)
