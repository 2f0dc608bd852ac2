use Rattle.std.proofs.Common.{[], ◌∷◌, refl, sym, subst, arith}
use Rattle.cd_base.specs.Keys.{plain}
use Rattle.cd_clause.proofs.Derive.{from_named}
use Rattle.cd_sample.proofs.WorkedDerivations.{link_justified}
use Rattle.cd_context.specs.declared.facts.Note.{Note}
use Rattle.cd_cell.specs.Cells.{CellState, IsLawfulNote}
use Rattle.cd_sample.proofs.cell_tests.linked.Goals as goal

pub deliver-requires-clause-lawful : goal.deliver-requires-clause-lawful
deliver-requires-clause-lawful g c =
    let n = c.args.index.now.normal in
    subst (λ (v : CellState). IsLawfulNote v.normal v.cells v.number c.the_link.result) (sym c.new-cell.ensures)
    (subst (λ (m : Note). IsLawfulNote n 1 0 m) (sym c.the_link.ensures) (record {
      below = omega arith;
      goes = refl;
      reachable = from_named 4 c.requires.four refl;
      justified = link_justified n c.requires.edge (plain 4 ∷ []) (plain 2 ∷ []) refl refl (from_named 2 c.requires.two refl);
    }))
