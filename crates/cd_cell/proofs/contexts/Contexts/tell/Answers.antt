use Rattle.std.proofs.Common.{ℕ, List, inr, sym, ap, subst, ◌∙◌}
use Rattle.std.proofs.lemmas.Result.{IfOk-weaker}
use Rattle.cd_context.specs.State.{State}
use Rattle.cd_cell.specs.Cells.{state_at}
use Rattle.cd_cell.specs.Telling.{AreClosedContexts, Puts, Tells}
use Rattle.cd_cell.proofs.Puts.{state_at_is}
use Rattle.cd_cell.proofs.Told.{at_err, here_context, here_closed, here_justified, kept, puts, tells}
use Rattle.cd_cell.proofs.contexts.Contexts.tell.Goals as goal

pub take-requires-clause-context : goal.take-requires-clause-context
take-requires-clause-context c =
    let closed = subst (AreClosedContexts c.args.index.now.normal) (sym c.self.view_is) c.requires.closed in
    here_context c.args.index.now.normal c.self.inside.by_key.entries c.args.key.now c.self.inside.by_key.entries c.in-Some.context.now c.in-Some.context.now c.in-Some.ensures.value closed

pub take-requires-clause-closed : goal.take-requires-clause-closed
take-requires-clause-closed c =
    let closed = subst (AreClosedContexts c.args.index.now.normal) (sym c.self.view_is) c.requires.closed in
    here_closed c.args.index.now.normal c.self.inside.by_key.entries c.args.key.now c.self.inside.by_key.entries c.in-Some.context.now c.in-Some.context.now c.in-Some.ensures.value closed

pub take-requires-clause-justified : goal.take-requires-clause-justified
take-requires-clause-justified c =
    let closed = subst (AreClosedContexts c.args.index.now.normal) (sym c.self.view_is) c.requires.closed in
    here_justified c.args.index.now.normal c.self.inside.by_key.entries c.args.key.now c.self.inside.by_key.entries c.in-Some.context.now c.in-Some.context.now c.in-Some.ensures.value closed
    c.args.fact c.requires.justified

pub take-requires-clause-fresh : goal.take-requires-clause-fresh
take-requires-clause-fresh c =
    c.requires.fresh c.in-Some.context.now
    (ap (λ (es : List (List ℕ × State)). state_at es c.args.key.now) (sym c.self.view_is) ∙ state_at_is c.self.inside.by_key.entries c.args.key.now ∙ sym c.in-Some.ensures.value)

pub invariant_of-self : goal.invariant_of-self
invariant_of-self c =
    let w = c.take.new.context in
    kept c.args.index.now.normal c.self.inside.by_key.entries c.args.key.now (c.get_mut.follows.lender w).entries w c.in-Some.context.now c.in-Some.ensures.value
    (c.get_mut.follows.holds w).0 c.take.ensures.next c.self.inside.facts c.take.new.sum c.self.invariant c.take.ensures.sum

pub begin-requires-clause-absent : goal.begin-requires-clause-absent
begin-requires-clause-absent c =
    ap (λ (es : List (List ℕ × State)). state_at es c.args.key.now) (ap (λ m. m.entries) c.get_mut.follows.holds-at-none) ∙ state_at_is c.self.inside.by_key.entries c.args.key.now ∙ sym c.in-None.ensures.value

pub returns-in-Some-clause-ok : goal.returns-in-Some-clause-ok
returns-in-Some-clause-ok c =
    let n = c.args.index.now.normal in
    let w = c.take.new.context in
    let new = (c.get_mut.follows.lender w).entries in
    let closed = subst (AreClosedContexts n) (sym c.self.view_is) c.requires.closed in
    IfOk-weaker c.take.result _ _
    (λ notes t. subst (λ (es : List (List ℕ × State)). Tells n es c.args.key.now c.args.fact new notes.items) c.self.view_is
    (tells n c.self.inside.by_key.entries c.args.key.now new w c.in-Some.context.now c.in-Some.ensures.value
    (c.get_mut.follows.holds w).0 c.take.ensures.next closed c.args.fact notes.items t)) c.take.ensures.ok

pub returns-in-Some-clause-err : goal.returns-in-Some-clause-err
returns-in-Some-clause-err c =
    let n = c.args.index.now.normal in
    let w = c.take.new.context in
    let new = (c.get_mut.follows.lender w).entries in
    let closed = subst (AreClosedContexts n) (sym c.self.view_is) c.requires.closed in
    at_err c.take.result _ (inr (subst (λ (es : List (List ℕ × State)). Puts n es c.args.key.now new) c.self.view_is
    (puts n c.self.inside.by_key.entries c.args.key.now new w c.in-Some.context.now c.in-Some.ensures.value
    (c.get_mut.follows.holds w).0 c.take.ensures.next closed)))
