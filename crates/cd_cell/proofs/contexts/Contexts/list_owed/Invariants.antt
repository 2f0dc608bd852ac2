use Rattle.cd_cell.proofs.Listed.{IsListing}
use Rattle.cd_cell.proofs.contexts.Contexts.list_owed.Given as goal

abbrev pub invariant-loop-context : goal.invariant-loop-context
invariant-loop-context l = IsListing l.index.normal l.self l.context-iterator l.notes.items
