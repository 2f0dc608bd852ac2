use Rattle.std.proofs.Common.{sym, subst, ◌∙◌}
use Rattle.std.proofs.lemmas.Option.{none-some}
use Rattle.cd_base.specs.Lists.{OneOf}
use Rattle.cd_cell.specs.Cells.{CellState}
use Rattle.cd_cell.specs.Subsumers.{HasContextAt}
use Rattle.cd_cell.proofs.Lookups.{member_of_state}
use Rattle.cd_cell.proofs.Puts.{member_state}
use Rattle.cd_cell.proofs.TrueAnswers.{exact_test}
use Rattle.cd_cell.proofs.cell.Cell.has_empty_at.Goals as goal

pub returns-in-Some : goal.returns-in-Some
returns-in-Some c =
    let i = c.self.inside in
    let isin = member_of_state i.contexts c.args.key.now c.in-Some.context.now (sym c.in-Some.ensures) in
    record {
      exact = exact_test c.args.self.now c.args.key.now c.has_empty.result c.in-Some.context.now
          (subst (λ (v : CellState). OneOf (c.args.key.now, c.in-Some.context.now) v.contexts) c.self.view_is isin) c.has_empty.ensures;
    }

pub returns-in-None : goal.returns-in-None
returns-in-None c =
    let i = c.self.inside in
    let here = subst (λ (v : CellState). HasContextAt v.contexts c.args.key.now) (sym c.self.view_is) c.requires.here in
    absurd (none-some here.0 (c.in-None.ensures ∙ member_state i.contexts _ here.0 c.self.invariant.cell.apart here.1))
