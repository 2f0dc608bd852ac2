use Rattle.std.proofs.Common.{◌≡◌, ◌+◌, ℕ, None, List, min, sym, ap, subst, ◌∙◌}
use Rattle.cd_base.specs.Counts.{last}
use Rattle.cd_context.specs.State.{State}
use Rattle.cd_cell.specs.Cells.{state_at}
use Rattle.cd_cell.specs.Telling.{IsNext, Tells, put}
use Rattle.cd_cell.proofs.Told.{kept_new, tells_new}
use Rattle.cd_cell.proofs.contexts.Contexts.begin.Goals as goal

pub invariant_of-self-2 : goal.invariant_of-self-2
invariant_of-self-2 c =
    let n = c.args.index.now.normal in
    let old = c.self.inside.by_key.entries in
    let new = c.insert.new.self.entries in
    let s = c.in_ok-context.context in
    let absent = subst (λ (es : List (List ℕ × State)). state_at es c.args.key.now ≡ None) (sym c.self.view_is) c.requires.absent in
    let is = subst (λ (k : List ℕ). new ≡ put old k s) c.in_ok-kept.ensures c.in_ok-insert.ensures.entries in
    kept_new n old c.args.key.now new s absent is c.self.inside.facts c.saturating_add-self-inside.result c.self.invariant
    (c.saturating_add-self-inside.ensures ∙ ap (λ (m : ℕ). min (c.self.inside.facts + m) last) c.facts-facts.ensures)

pub returns-clause-ok : goal.returns-clause-ok
returns-clause-ok c =
    let n = c.args.index.now.normal in
    let old = c.self.inside.by_key.entries in
    let new = c.insert.new.self.entries in
    let s = c.in_ok-context.context in
    let absent = subst (λ (es : List (List ℕ × State)). state_at es c.args.key.now ≡ None) (sym c.self.view_is) c.requires.absent in
    let is = subst (λ (k : List ℕ). new ≡ put old k s) c.in_ok-kept.ensures c.in_ok-insert.ensures.entries in
    subst (λ (es : List (List ℕ × State)). Tells n es c.args.key.now c.args.fact new c.in_ok-context.notes.items) c.self.view_is
    (tells_new n old c.args.key.now new s absent is c.args.fact c.in_ok-context.notes.items
    (subst (λ (k : List ℕ). IsNext n None k s) c.in_ok-own.ensures c.in_ok-context.ensures.next) c.in_ok-context.ensures.ok)
