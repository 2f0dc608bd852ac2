use Rattle.std.proofs.Common.{◌≡◌, true, refl, subst, sym, List}
use Rattle.std.specs.Result.{IsOk}
use Rattle.cd_base.specs.Keys.{negated}
use Rattle.cd_base.specs.Lists.{SameSet}
use Rattle.cd_clause.specs.declared.elem.Elem.{Elem}
use Rattle.cd_rules.specs.Steps.{IsNeg}
use Rattle.cd_rules.proofs.Literals.{code_found, code_missed}
use Rattle.cd_rules.proofs.Pushed.{failed, pushed, unpushed}
use Rattle.cd_rules.proofs.neg.neg.Goals as goal

pub returns-in_err-push : goal.returns-in_err-push
returns-in_err-push c =
    unpushed (IsNeg c.args.key.now c.args.atom c.args.others.now) (IsOk c.from_residual-in_err-push.result) c.args.out.now.items c.push.new.self.items
    c.in_err-push.ensures.items (λ h d p. failed c.from_residual-in_err-push.result c.from_residual-in_err-push.ensures.0 h)

pub returns-in_ok-push : goal.returns-in_ok-push
returns-in_ok-push c =
    let isin = code_found c.lits.result.now c.args.key.now c.code.result (negated c.args.atom) c.has_code.result c.lits.ensures.codes c.code.ensures.code c.has_code.ensures c.if-has_code.true in
    pushed (IsNeg c.args.key.now c.args.atom c.args.others.now) (true ≡ true) c.args.out.now.items c.push.new.self.items c.in_ok-copy.field-0
    c.args.others.now c.in_ok-push.ensures.items
    (subst (λ (l : List Elem). SameSet l c.args.others.now) (sym c.in_ok-copy.ensures) (λ x m. m, λ x m. m))
    (λ d s. (isin, s)) (λ h d p. p.1)

pub returns-else-has_code : goal.returns-else-has_code
returns-else-has_code c =
    let missed = code_missed c.lits.result.now c.args.key.now c.code.result (negated c.args.atom) c.has_code.result c.lits.ensures.codes c.code.ensures.code c.has_code.ensures c.if-has_code.false in
    unpushed (IsNeg c.args.key.now c.args.atom c.args.others.now) (true ≡ true) c.args.out.now.items c.args.out.now.items refl (λ h d p. missed p.0)
