use Rattle.std.proofs.Common.{ℕ, List, IfOk, ap, sym, subst, ◌∙◌}
use Rattle.std.proofs.lemmas.Option.{none-some}
use Rattle.std.proofs.lemmas.Result.{IfOk-weaker}
use Rattle.cd_cell.specs.Cells.{CellState, state_at}
use Rattle.cd_cell.specs.Subsumers.{HasContext, IsReadingIn}
use Rattle.cd_cell.proofs.Answered.{of_found}
use Rattle.cd_cell.proofs.Puts.{member_state}
use Rattle.cd_cell.proofs.TrueAnswers.{exact_reading}
use Rattle.cd_cell.proofs.cell.Cell.read.Goals as goal

pub returns-in-Some : goal.returns-in-Some
returns-in-Some c =
    let i = c.self.inside in
    let first = subst (λ (v : CellState). IfOk c.reading_of.result (λ reading. IsReadingIn v.normal v.contexts c.args.atom reading)) c.self.view_is
    (IfOk-weaker c.reading_of.result _ _
    (λ reading h. of_found i.index.now.normal i.contexts c.args.atom c.in-Some.context.now reading c.self.invariant.cell.apart
    (c.in-Some.ensures ∙ ap (λ (k : List ℕ). state_at i.contexts k) c.single.ensures) h)
    c.reading_of.ensures) in
    record {
      reading = first;
      exact = IfOk-weaker c.reading_of.result _ _ (λ reading h. exact_reading c.args.self.now c.args.atom reading c.requires.here h) first;
    }

pub returns : goal.returns
returns c =
    let i = c.self.inside in
    let here = subst (λ (v : CellState). HasContext v.contexts c.args.atom) (sym c.self.view_is) c.requires.here in
    absurd (none-some here.0 (c.in-None.ensures ∙ ap (λ (k : List ℕ). state_at i.contexts k) c.single.ensures ∙ member_state i.contexts _ here.0 c.self.invariant.cell.apart here.1))
