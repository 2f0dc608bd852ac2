use Rattle.std.proofs.Common.{◌≡◌, true, List, filter, subst}
use Rattle.std.specs.Prelude.{nat_lt}
use Rattle.std.specs.Result.{IsOk}
use Rattle.cd_context.specs.Contract.{ListsOwed, Sends}
use Rattle.cd_context.specs.declared.facts.LinkFact.{LinkFact}
use Rattle.cd_context.specs.declared.facts.Note.{Note}
use Rattle.cd_context.specs.Owes.{Owes}
use Rattle.cd_context.specs.State.{State}
use Rattle.cd_context.proofs.Owed.{lists_owed}
use Rattle.cd_context.proofs.context.Context.list_owed.Goals as goal

pub returns : goal.returns
returns c =
    let n = c.args.index.now.normal in
    let s = c.self.inside in
    let done = IsOk c.append_distinct.result in
    let owed = c.owe_since.new.out.items in
    let from = c.new-owed.result.items in
    let sent = subst (λ (l : List LinkFact). Sends n (true ≡ true)
    (Owes n (record { key = s.key; clauses = s.store.clauses; live = filter (λ k. nat_lt k 0) s.store.live; links = l; backs = s.facts.backs; sures = s.facts.sures; deads = s.facts.deads }))
    (record { key = s.key; clauses = s.store.clauses; live = s.store.live; links = l; backs = s.facts.backs; sures = s.facts.sures; deads = s.facts.deads }) from owed)
    c.links-links.ensures (c.in_ok-owe_since.ensures s.facts.backs s.facts.sures s.facts.deads) in
    let sends = subst (λ (l : List Note). Sends n (true ≡ true)
    (Owes n (record { key = s.key; clauses = s.store.clauses; live = filter (λ k. nat_lt k 0) s.store.live; links = s.facts.links; backs = s.facts.backs; sures = s.facts.sures; deads = s.facts.deads }))
    (record { key = s.key; clauses = s.store.clauses; live = s.store.live; links = s.facts.links; backs = s.facts.backs; sures = s.facts.sures; deads = s.facts.deads }) l owed)
    c.new-owed.ensures.items sent in
    subst (λ (v : State). ListsOwed n done v c.args.out.now.items c.append_distinct.new.out.items) c.self.view_is
    (lists_owed n s.key s.store.clauses s.store.live s.facts.links s.facts.backs s.facts.sures s.facts.deads owed c.args.out.now.items c.append_distinct.new.out.items done sends c.append_distinct.ensures)
