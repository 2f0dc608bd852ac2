use Rattle.std.proofs.Common.{◌≡◌, true, false, ◌∷◌, [], rules}
use Rattle.std.specs.Result.{IsOk}
use Rattle.cd_clause.specs.declared.elem.Elem.TheVariants.{Plain}
use Rattle.cd_rules.specs.Parts.{IsInitBy}
use Rattle.cd_rules.proofs.Pushed.{failed, pushed, unpushed}
use Rattle.cd_rules.proofs.init.push_atom.Goals as goal

pub returns-in_err-push : goal.returns-in_err-push
returns-in_err-push c =
    unpushed (IsInitBy c.args.lit.now) (IsOk c.from_residual-in_err-push.result) c.args.out.now.items c.push.new.self.items
    c.in_err-push.ensures.items (λ h d p. failed c.from_residual-in_err-push.result c.from_residual-in_err-push.ensures.0 h)

pub returns-in_ok-push : goal.returns-in_ok-push
returns-in_ok-push c =
    let negated_is : c.args.lit.now.negated ≡ false = search rules in
    pushed (IsInitBy c.args.lit.now) (true ≡ true) c.args.out.now.items c.push.new.self.items c.in_ok-atoms_clause.field-0
    (Plain c.args.lit.now.atom ∷ []) c.in_ok-push.ensures.items c.in_ok-atoms_clause.ensures
    (λ d s. (negated_is, s)) (λ h d p. p.1)
