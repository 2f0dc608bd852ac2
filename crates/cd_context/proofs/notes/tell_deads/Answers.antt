use Rattle.std.proofs.Common.{◌≡◌, true, refl}
use Rattle.std.specs.Result.{IsOk}
use Rattle.cd_context.specs.OwedParts.{IsDeadNote}
use Rattle.cd_base.proofs.Appending.{failed, member_grows, walk_ends, walk_goes, walk_stops}
use Rattle.cd_context.proofs.notes.tell_deads.Goals as goal

pub returns-in_err-note_dead : goal.returns-in_err-note_dead
returns-in_err-note_dead c =
    walk_stops member_grows (IsDeadNote c.args.key.now) c.args.links.now c.links.rest.now c.link-item.result (IsOk c.note_dead.result) (IsOk c.from_residual.result) c.args.out.now.items c.links.out.items c.note_dead.new.out.items
    c.links.invariant c.in-len1-up.len_at_least c.link-item.is c.note_dead.ensures (failed c.from_residual.result c.from_residual.ensures.0)

pub links-preserved : goal.links-preserved
links-preserved c =
    walk_goes member_grows (IsDeadNote c.args.key.now) c.args.links.now c.links.rest.now _ c.link-item.result (true ≡ true) c.args.out.now.items c.links.out.items c.note_dead.new.out.items
    c.links.invariant refl c.in-len1-up.len_at_least c.link-item.is c.in_ok-note_dead.ensures refl

pub returns : goal.returns
returns c =
    walk_ends (IsDeadNote c.args.key.now) c.args.links.now c.links.rest.now (true ≡ true) c.args.out.now.items c.links.out.items c.links.invariant c.in_default.len_below
