use Rattle.std.proofs.Common.{◌≡◌, true, List, sym, subst}
use Rattle.std.specs.Result.{IsOk}
use Rattle.cd_context.specs.declared.facts.Note.{Note}
use Rattle.cd_context.specs.EachOnce.{HasEachOnce}
use Rattle.cd_base.proofs.Appending.{failed}
use Rattle.cd_context.proofs.Once.{adding_begins, adding_goes, adding_stops, adding_ends}
use Rattle.cd_context.proofs.distinct.append_distinct.Goals as goal

pub distinct-init : goal.distinct-init
distinct-init c = adding_begins c.into_iter-note-iterator.result c.args.out.now.items

pub distinct-preserved : goal.distinct-preserved
distinct-preserved c =
    adding_goes c.into_iter-note-iterator.result c.distinct.note-iterator c.next.new.self c.args.out.now.items c.distinct.out.items c.push.new.self.items c.in-Some.note
    c.distinct.invariant c.in-Some.ensures.steps c.in_ok-push.ensures.items

pub returns-in_err-push : goal.returns-in_err-push
returns-in_err-push c =
    let begun : c.into_iter-note-iterator.result ≡ c.in_ok-distinct.distinct.keys = c.into_iter-note-iterator.ensures.into_iter_gives.0 in
    adding_stops c.args.notes.items c.into_iter-note-iterator.result c.distinct.note-iterator c.args.out.now.items c.push.new.self.items (IsOk c.from_residual-in_err-push.result)
    (subst (λ (l : List Note). HasEachOnce c.args.notes.items l) (sym begun) c.in_ok-distinct.ensures)
    (rw c.in_err-push.ensures.items c.distinct.invariant) (failed c.from_residual-in_err-push.result c.from_residual-in_err-push.ensures.0)

pub returns : goal.returns
returns c =
    let begun : c.into_iter-note-iterator.result ≡ c.in_ok-distinct.distinct.keys = c.into_iter-note-iterator.ensures.into_iter_gives.0 in
    adding_ends c.args.notes.items c.into_iter-note-iterator.result c.distinct.note-iterator c.args.out.now.items c.distinct.out.items (true ≡ true)
    (subst (λ (l : List Note). HasEachOnce c.args.notes.items l) (sym begun) c.in_ok-distinct.ensures)
    c.distinct.invariant c.in-None.ensures.steps.0
