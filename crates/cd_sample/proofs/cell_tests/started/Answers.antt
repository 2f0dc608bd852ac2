use Rattle.std.proofs.Common.{sym, subst, arith}
use Rattle.cd_clause.specs.Derivations.{Reachable}
use Rattle.cd_clause.proofs.Derive.{named_start, from_named}
use Rattle.cd_context.specs.declared.facts.Fact.TheVariants.{Start}
use Rattle.cd_cell.specs.Cells.{CellState, IsLawfulNote}
use Rattle.cd_sample.proofs.cell_tests.started.Goals as goal

pub is_whole_after-requires-clause-lawful : goal.is_whole_after-requires-clause-lawful
is_whole_after-requires-clause-lawful g c =
    subst (λ (v : CellState). IsLawfulNote v.normal v.cells v.number (record { key = c.single.result; fact = Start })) (sym c.new-cell.ensures) (record {
      below = omega arith;
      goes = omega arith;
      reachable = from_named 2 c.requires c.single.ensures;
      justified = named_start c.args.index.now.normal c.single.result 2 c.requires c.single.ensures;
    })
