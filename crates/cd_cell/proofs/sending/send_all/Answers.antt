use Rattle.std.proofs.Common.{◌≡◌, ℕ, true, length, List, sym, subst, arith}
use Rattle.std.specs.Result.{IsOk}
use Rattle.std.specs.Vec.Iter.{into_iter_items, into_iter_len}
use Rattle.std.proofs.lemmas.Grind.{common_steps}
use Rattle.std.proofs.lemmas.List.{nil_from_length}
use Rattle.cd_base.proofs.Appending.{failed}
use Rattle.cd_context.specs.declared.facts.Note.{Note}
use Rattle.cd_cell.proofs.Sent.{IsSending, sending_goes, sending_ends}
use Rattle.cd_cell.proofs.sending.send_all.Goals as goal

pub loop-note-preserved : goal.loop-note-preserved
loop-note-preserved c = sending_goes c.args.cells c.args.notes.items (into_iter_items c.loop-note.note-iterator) (into_iter_items c.next.new.self) c.args.out.now c.loop-note.out c.put.new.self c.place-cell.result c.in-Some.note
    c.in-Some.ensures.steps.0 c.place-cell.ensures c.in_ok-put.ensures.ok c.loop-note.invariant

pub returns-in_err-put : goal.returns-in_err-put
returns-in_err-put c =
    sending_ends c.args.cells (IsOk c.from_residual.result) c.args.notes.items (into_iter_items c.loop-note.note-iterator) c.args.out.now c.put.new.self
    (λ done. absurd (failed c.from_residual.result c.from_residual.ensures.0 done))
    (subst (λ (l : List (ℕ × Note)). IsSending c.args.cells c.args.notes.items c.args.out.now (into_iter_items c.loop-note.note-iterator) l) (sym c.in_err-put.ensures.err) c.loop-note.invariant)

pub returns : goal.returns
returns c =
    let z : into_iter_len c.loop-note.note-iterator ≡ 0 = c.in-None.ensures.steps.0 in
    let none : length (into_iter_items c.loop-note.note-iterator) ≡ 0 = grind (arith, common_steps) in
    sending_ends c.args.cells (true ≡ true) c.args.notes.items (into_iter_items c.loop-note.note-iterator) c.args.out.now c.loop-note.out
    (λ done. nil_from_length (into_iter_items c.loop-note.note-iterator) none) c.loop-note.invariant
