use Rattle.std.specs.Vec.Iter.{into_iter_items}
use Rattle.cd_cell.proofs.Sent.{IsSending}
use Rattle.cd_cell.proofs.sending.send_all.Given as goal

abbrev pub invariant-loop-note : goal.invariant-loop-note
invariant-loop-note l = IsSending l.cells l.fn.notes.items l.fn.out (into_iter_items l.note-iterator) l.out
