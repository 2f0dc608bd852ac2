use Rattle.std.proofs.Common.{◌≡◌, true, false, refl, sym, subst}
use Rattle.std.specs.Result.{IsOk}
use Rattle.cd_actor.specs.Meaning.{Keeps, Delivers}
use Rattle.cd_actor.specs.Sends.{sent, Sends}
use Rattle.cd_cell.specs.Cells.{CellState, IsWhole, place_of, meaning}
use Rattle.cd_cell.proofs.Delivered.{with_contexts, are_closed, keeps_either, sound_either, sound_now, keeps_now, sends_now, delivers_now}
use Rattle.cd_cell.proofs.cell.CellActor.deliver.Goals as goal

pub tell-requires-clause-closed : goal.tell-requires-clause-closed
tell-requires-clause-closed c =
    let i = c.self.inside in
    let u : CellState = record { number = i.number; cells = i.cells; normal = i.index.now.normal; contexts = i.contexts; failed = i.failed } in
    are_closed u (subst IsWhole (sym c.self.view_is) c.requires.whole)

pub invariant_of-self : goal.invariant_of-self
invariant_of-self c =
    let i = c.self.inside in
    let u : CellState = record { number = i.number; cells = i.cells; normal = i.index.now.normal; contexts = i.contexts; failed = i.failed } in
    sound_either u c.args.message.key c.tell.new.self (subst IsWhole (sym c.self.view_is) c.requires.whole)
    (subst (λ (v : CellState). v.number ≡ place_of v.cells c.args.message.key) (sym c.self.view_is) c.requires.lawful.goes) c.in_err-notes.ensures.err

pub returns-in_err-notes-clause-keeps : goal.returns-in_err-notes-clause-keeps
returns-in_err-notes-clause-keeps c =
    let i = c.self.inside in
    let u : CellState = record { number = i.number; cells = i.cells; normal = i.index.now.normal; contexts = i.contexts; failed = i.failed } in
    subst (λ (v : CellState). Keeps meaning v (with_contexts u c.tell.new.self true)) c.self.view_is
    (keeps_either u c.args.message.key c.tell.new.self c.in_err-notes.ensures.err)

pub invariant_of-self-in_err-send_all : goal.invariant_of-self-in_err-send_all
invariant_of-self-in_err-send_all c =
    let i = c.self.inside in
    let u : CellState = record { number = i.number; cells = i.cells; normal = i.index.now.normal; contexts = i.contexts; failed = i.failed } in
    sound_now u c.args.message c.tell.new.self c.in_ok-notes.notes.items (subst IsWhole (sym c.self.view_is) c.requires.whole)
    (subst (λ (v : CellState). v.number ≡ place_of v.cells c.args.message.key) (sym c.self.view_is) c.requires.lawful.goes) c.in_ok-notes.ensures.ok true

pub returns-in_err-send_all-clause-keeps : goal.returns-in_err-send_all-clause-keeps
returns-in_err-send_all-clause-keeps c =
    let i = c.self.inside in
    let u : CellState = record { number = i.number; cells = i.cells; normal = i.index.now.normal; contexts = i.contexts; failed = i.failed } in
    subst (λ (v : CellState). Keeps meaning v (with_contexts u c.tell.new.self true)) c.self.view_is
    (keeps_now u c.args.message c.tell.new.self c.in_ok-notes.notes.items (subst IsWhole (sym c.self.view_is) c.requires.whole)
    (subst (λ (v : CellState). v.number ≡ place_of v.cells c.args.message.key) (sym c.self.view_is) c.requires.lawful.goes) c.in_ok-notes.ensures.ok true)

pub returns-in_err-send_all-clause-sends : goal.returns-in_err-send_all-clause-sends
returns-in_err-send_all-clause-sends c =
    let i = c.self.inside in
    let u : CellState = record { number = i.number; cells = i.cells; normal = i.index.now.normal; contexts = i.contexts; failed = i.failed } in
    subst (λ (v : CellState). Sends (meaning.lawful v) c.args.out.now c.send_all.new.out) c.self.view_is
    (sends_now u c.args.message c.tell.new.self c.in_ok-notes.notes.items (subst IsWhole (sym c.self.view_is) c.requires.whole)
    (subst (λ (v : CellState). v.number ≡ place_of v.cells c.args.message.key) (sym c.self.view_is) c.requires.lawful.goes) c.in_ok-notes.ensures.ok
    (IsOk c.send_all.result) c.args.out.now c.send_all.new.out c.send_all.ensures)

pub invariant_of-self-2 : goal.invariant_of-self-2
invariant_of-self-2 c =
    let i = c.self.inside in
    let u : CellState = record { number = i.number; cells = i.cells; normal = i.index.now.normal; contexts = i.contexts; failed = i.failed } in
    sound_now u c.args.message c.tell.new.self c.in_ok-notes.notes.items (subst IsWhole (sym c.self.view_is) c.requires.whole)
    (subst (λ (v : CellState). v.number ≡ place_of v.cells c.args.message.key) (sym c.self.view_is) c.requires.lawful.goes) c.in_ok-notes.ensures.ok false

pub returns-clause-keeps : goal.returns-clause-keeps
returns-clause-keeps c =
    let i = c.self.inside in
    let u : CellState = record { number = i.number; cells = i.cells; normal = i.index.now.normal; contexts = i.contexts; failed = i.failed } in
    subst (λ (v : CellState). Keeps meaning v (with_contexts u c.tell.new.self false)) c.self.view_is
    (keeps_now u c.args.message c.tell.new.self c.in_ok-notes.notes.items (subst IsWhole (sym c.self.view_is) c.requires.whole)
    (subst (λ (v : CellState). v.number ≡ place_of v.cells c.args.message.key) (sym c.self.view_is) c.requires.lawful.goes) c.in_ok-notes.ensures.ok false)

pub returns-clause-sends : goal.returns-clause-sends
returns-clause-sends c =
    let i = c.self.inside in
    let u : CellState = record { number = i.number; cells = i.cells; normal = i.index.now.normal; contexts = i.contexts; failed = i.failed } in
    subst (λ (v : CellState). Sends (meaning.lawful v) c.args.out.now c.send_all.new.out) c.self.view_is
    (sends_now u c.args.message c.tell.new.self c.in_ok-notes.notes.items (subst IsWhole (sym c.self.view_is) c.requires.whole)
    (subst (λ (v : CellState). v.number ≡ place_of v.cells c.args.message.key) (sym c.self.view_is) c.requires.lawful.goes) c.in_ok-notes.ensures.ok
    (IsOk c.send_all.result) c.args.out.now c.send_all.new.out c.send_all.ensures)

pub returns-clause-delivers : goal.returns-clause-delivers
returns-clause-delivers c =
    let i = c.self.inside in
    let u : CellState = record { number = i.number; cells = i.cells; normal = i.index.now.normal; contexts = i.contexts; failed = i.failed } in
    subst (λ (v : CellState). Delivers meaning v c.args.message (with_contexts u c.tell.new.self false) (sent c.args.out.now c.send_all.new.out)) c.self.view_is
    (delivers_now u c.args.message c.tell.new.self c.in_ok-notes.notes.items (subst IsWhole (sym c.self.view_is) c.requires.whole)
    (subst (λ (v : CellState). v.number ≡ place_of v.cells c.args.message.key) (sym c.self.view_is) c.requires.lawful.goes) c.in_ok-notes.ensures.ok
    (true ≡ true) c.args.out.now c.send_all.new.out c.in_ok-send_all.ensures refl)
