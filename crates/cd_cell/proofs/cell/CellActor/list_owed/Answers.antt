use Rattle.std.proofs.Common.{ℕ, subst}
use Rattle.std.specs.Result.{IsOk}
use Rattle.cd_actor.specs.Sends.{sent, Sends}
use Rattle.cd_base.specs.Lists.{OneOf}
use Rattle.cd_context.specs.declared.facts.Note.{Note}
use Rattle.cd_cell.specs.Cells.{CellState, IsWhole, OwesFrom, meaning}
use Rattle.cd_cell.proofs.OwedBy.{where_done, lists_only, lists_sends, lists_every}
use Rattle.cd_cell.proofs.cell.CellActor.list_owed.Goals as goal

pub returns-clause-sends : goal.returns-clause-sends
returns-clause-sends c =
    let i = c.self.inside in
    let u : CellState = record { number = i.number; cells = i.cells; normal = i.index.now.normal; contexts = i.contexts; failed = i.failed } in
    subst (λ (v : CellState). IsWhole v → Sends (meaning.lawful v) c.args.out.now c.send_all.new.out) c.self.view_is
    (lists_sends u c.in_ok-notes.notes.items c.in_ok-notes.ensures (IsOk c.send_all.result) c.args.out.now c.send_all.new.out c.send_all.ensures)

pub returns-clause-only : goal.returns-clause-only
returns-clause-only c =
    let i = c.self.inside in
    let u : CellState = record { number = i.number; cells = i.cells; normal = i.index.now.normal; contexts = i.contexts; failed = i.failed } in
    subst (λ (v : CellState). (p : ℕ) (m : Note) → OneOf (p, m) (sent c.args.out.now c.send_all.new.out) → OwesFrom v.normal v.cells v.contexts p m) c.self.view_is
    (lists_only u c.in_ok-notes.notes.items c.in_ok-notes.ensures (IsOk c.send_all.result) c.args.out.now c.send_all.new.out c.send_all.ensures)

pub returns-clause-every : goal.returns-clause-every
returns-clause-every c =
    let i = c.self.inside in
    let u : CellState = record { number = i.number; cells = i.cells; normal = i.index.now.normal; contexts = i.contexts; failed = i.failed } in
    where_done c.send_all.result _ (λ done.
    subst (λ (v : CellState). (p : ℕ) (m : Note) → OwesFrom v.normal v.cells v.contexts p m → OneOf (p, m) (sent c.args.out.now c.send_all.new.out)) c.self.view_is
    (lists_every u c.in_ok-notes.notes.items c.in_ok-notes.ensures (IsOk c.send_all.result) c.args.out.now c.send_all.new.out c.send_all.ensures done))
