use Rattle.std.proofs.Common.{◌≡◌, true, ◌∷◌, [], List, ℕ, subst}
use Rattle.std.specs.Result.{IsOk}
use Rattle.cd_base.specs.Lists.{SameSet}
use Rattle.cd_base.specs.Keys.{plain}
use Rattle.cd_clause.specs.declared.elem.Elem.TheVariants.{Exist}
use Rattle.cd_rules.specs.Parts.{IsExBy}
use Rattle.cd_rules.proofs.Pushed.{failed, pushed, unpushed}
use Rattle.cd_rules.proofs.ex.push_edge.Goals as goal

pub returns-in_err-push : goal.returns-in_err-push
returns-in_err-push c =
    unpushed (IsExBy c.args.edge.now c.args.others.now) (IsOk c.from_residual-in_err-push.result) c.args.out.now.items c.push.new.self.items
    c.in_err-push.ensures.items (λ h d p. failed c.from_residual-in_err-push.result c.from_residual-in_err-push.ensures.0 h)

pub returns : goal.returns
returns c =
    let edge = c.args.edge.now in
    pushed (IsExBy edge c.args.others.now) (true ≡ true) c.args.out.now.items c.push.new.self.items c.in_ok-with.field-0
    (Exist edge.role (plain edge.other ∷ []) ∷ c.args.others.now) c.in_ok-push.ensures.items
    (subst (λ (k : List ℕ). SameSet c.in_ok-with.field-0 (Exist edge.role k ∷ c.args.others.now)) c.single-key.ensures c.in_ok-with.ensures)
    (λ d s. s) (λ h d s. s)
