-- Notes that are put into an outbox.
use Rattle.std.specs.Prelude.{◌≡◌, ◌++◌, ℕ, List}
use Rattle.cd_base.specs.Lists.{OneOf, HasNoRepeats}
use Rattle.cd_actor.specs.Sends.{sent}
use Rattle.cd_context.specs.declared.facts.Note.{Note}
use Rattle.cd_cell.specs.Cells.{place_of}

-- what was appended are some of the notes, each for the cell of its key, and where the work was done all of them
pub record SendsNotes (cells : ℕ) (Done : Type 0) (notes : List Note)
    (out new_out : List (ℕ × Note)) : Type 0 where
  pub follows : new_out ≡ out ++ sent out new_out
  pub only : (p : ℕ) (note : Note) → OneOf (p, note) (sent out new_out)
      → OneOf note notes × (p ≡ place_of cells note.key)
  pub once : HasNoRepeats notes → HasNoRepeats (sent out new_out)
  pub every : Done → (note : Note) → OneOf note notes
      → OneOf (place_of cells note.key, note) (sent out new_out)
