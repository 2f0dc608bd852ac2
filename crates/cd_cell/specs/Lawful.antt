-- What cells of one family have in common, and that what a cell owes is lawful.
use Rattle.std.specs.Prelude.{◌≡◌, ℕ, ◌<◌}
use Rattle.std.proofs.Common.{ap, subst, arith}
use Rattle.cd_base.specs.declared.normal.Normal.{Normal}
use Rattle.cd_context.proofs.Justify.{owed_justified}
use Rattle.cd_context.specs.declared.facts.Note.{Note}
use Rattle.cd_cell.specs.Cells.{CellState, IsWhole, IsLawfulNote, OwesFrom, place_of, meaning}

-- cells of one family are among as many cells
pub same_places : (c d : CellState) → meaning.family c ≡ meaning.family d → c.cells ≡ d.cells
same_places c d e = ap (λ (f : ℕ × Normal). f.0) e

-- a note that is lawful for one cell of a family is for each
pub same_lawful : (c d : CellState) → meaning.family c ≡ meaning.family d → (p : ℕ) (note : Note)
    → IsLawfulNote c.normal c.cells p note → IsLawfulNote d.normal d.cells p note
same_lawful c d e p note l = subst (λ (f : ℕ × Normal). IsLawfulNote f.1 f.0 p note) e l

-- what a whole cell owes goes to the cell of a key that can be reached, and is justified there
pub owed_lawful : (c : CellState) (p : ℕ) (note : Note) → IsWhole c
    → OwesFrom c.normal c.cells c.contexts p note → IsLawfulNote c.normal c.cells p note
owed_lawful c p note w o =
    let j = owed_justified c.normal o.state (w.cell.context o.key o.state o.here) (w.closed o.key o.state o.here) note o.owes in
    let b : c.number < c.cells = w.cell.below in
    let e : p ≡ place_of c.cells note.key = o.goes in
    record { below = omega arith; goes = e; reachable = j.0; justified = j.1 }
