-- Notes, each once.
use Rattle.std.specs.Prelude.{List}
use Rattle.cd_base.specs.Lists.{OneOf, HasNoRepeats}
use Rattle.cd_context.specs.declared.facts.Note.{Note}

-- `found` has each of the notes, once, and no other
pub record HasEachOnce (notes found : List Note) : Type 0 where
  pub only : (note : Note) → OneOf note found → OneOf note notes
  pub once : HasNoRepeats found
  pub every : (note : Note) → OneOf note notes → OneOf note found
