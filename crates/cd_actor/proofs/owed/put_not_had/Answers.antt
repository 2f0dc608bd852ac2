use Rattle.std.proofs.Common.{sym, ◌∙◌, refl, inl, subst, arith}
use Rattle.cd_actor.specs.Cells.{At}
use Rattle.cd_actor.proofs.At.{at_index}
use Rattle.cd_actor.proofs.Joining.{IsJoining, join_drop, join_keep, join_end}
use Rattle.cd_actor.proofs.owed.put_not_had.Goals as goal

pub bounds-cells-place : goal.bounds-cells-place
bounds-cells-place g c = ((subst (λ q. IsJoining g.A.Actor.meaning c.args.cells.now c.args.messages c.args.pending.now q c.messages.pending) c.in-Some.ensures c.messages.invariant).lawful (c.in-Some.cell, c.in-Some.message) (inl refl)).0

pub offset_bounds-cells-place : goal.offset_bounds-cells-place
offset_bounds-cells-place g c = let h = ((subst (λ q. IsJoining g.A.Actor.meaning c.args.cells.now c.args.messages c.args.pending.now q c.messages.pending) c.in-Some.ensures c.messages.invariant).lawful (c.in-Some.cell, c.in-Some.message) (inl refl)).0 in omega arith

pub messages-preserved : goal.messages-preserved
messages-preserved g c =
    let m = g.A.Actor.meaning in
    let h = ((subst (λ q. IsJoining m c.args.cells.now c.args.messages c.args.pending.now q c.messages.pending) c.in-Some.ensures c.messages.invariant).lawful (c.in-Some.cell, c.in-Some.message) (inl refl)).0 in
    let at : At c.args.cells.now c.in-Some.cell c.index-cells-place.result = at_index c.args.cells.now c.in-Some.cell c.index-cells-place.result h c.index-cells-place.is in
    join_drop m c.args.cells.now c.args.messages c.args.pending.now c.messages.messages c.messages.pending c.in-Some.cell c.in-Some.message c.take.new.self c.index-cells-place.result c.messages.invariant c.in-Some.ensures at (sym c.has.ensures ∙ c.if-not-has.false)

pub messages-preserved-in-Continue-1 : goal.messages-preserved-in-Continue-1
messages-preserved-in-Continue-1 g c =
    let m = g.A.Actor.meaning in
    let h = ((subst (λ q. IsJoining m c.args.cells.now c.args.messages c.args.pending.now q c.messages.pending) c.in-Some.ensures c.messages.invariant).lawful (c.in-Some.cell, c.in-Some.message) (inl refl)).0 in
    let at : At c.args.cells.now c.in-Some.cell c.index-cells-place.result = at_index c.args.cells.now c.in-Some.cell c.index-cells-place.result h c.index-cells-place.is in
    join_keep m c.args.cells.now c.args.messages c.args.pending.now c.messages.messages c.messages.pending c.in-Some.cell c.in-Some.message c.take.new.self c.index-cells-place.result c.messages.invariant c.in-Some.ensures at (sym c.has.ensures ∙ c.if-not-has.true) c.put.new.self c.in_ok-put.ensures.ok

pub returns-clause-not_had : goal.returns-clause-not_had
returns-clause-not_had g c = join_end g.A.Actor.meaning c.args.cells.now c.args.messages c.args.pending.now c.messages.messages c.messages.pending c.messages.invariant c.in_default.ensures.0
