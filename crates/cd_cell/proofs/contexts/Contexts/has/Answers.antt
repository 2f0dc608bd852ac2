use Rattle.std.proofs.Common.{◌≡◌, false, List, ℕ, ◌∙◌, subst}
use Rattle.cd_context.specs.State.{State}
use Rattle.cd_cell.specs.Cells.{has_note}
use Rattle.cd_cell.proofs.Puts.{has_found, has_none}
use Rattle.cd_cell.proofs.contexts.Contexts.has.Goals as goal

pub returns-in-Some : goal.returns-in-Some
returns-in-Some c =
    subst (λ (es : List (List ℕ × State)). c.has.result ≡ has_note es c.args.note.now) c.self.view_is
    (c.has.ensures ∙ has_found c.self.inside.by_key.entries c.args.note.now c.in-Some.context.now c.in-Some.ensures.value)

pub returns-in-None : goal.returns-in-None
returns-in-None c =
    subst (λ (es : List (List ℕ × State)). false ≡ has_note es c.args.note.now) c.self.view_is
    (has_none c.self.inside.by_key.entries c.args.note.now c.in-None.ensures.value)
