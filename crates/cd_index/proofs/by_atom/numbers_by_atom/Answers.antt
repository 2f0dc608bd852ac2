use Rattle.std.proofs.Common.{◌≡◌, sym, ap, ◌∙◌}
use Rattle.cd_index.specs.Index.{has, left_of}
use Rattle.cd_index.proofs.Numbers.{left_read, lists_below, lists_noted}
use Rattle.cd_index.proofs.by_atom.numbers_by_atom.Goals as goal

pub note-requires-clause-earlier : goal.note-requires-clause-earlier
note-requires-clause-earlier c =
    lists_below c.args.atoms c.loop-number.number c.loop-number.lists.items (λ atom k. has atom (left_of c.args.axioms.now k)) c.loop-number.invariant

pub loop-number-preserved : goal.loop-number-preserved
loop-number-preserved c =
    let axioms = c.args.axioms.now in
    let i = c.loop-number.number in
    let left : left_of axioms i ≡ c.items.result.now
    = left_read axioms i c.index-axioms-number.result c.loop-number-test.true c.index-axioms-number.is ∙ sym c.items.ensures in
    lists_noted c.args.atoms i c.loop-number.lists.items c.note.new.lists.items (λ atom k. has atom (left_of axioms k)) (λ atom. has atom c.items.result.now)
    c.loop-number.invariant c.in_ok-note.ensures (λ atom. ap (has atom) left)
