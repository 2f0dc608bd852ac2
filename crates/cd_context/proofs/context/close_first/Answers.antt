use Rattle.std.proofs.Common.{List, length, filter, nat_lt, refl, ap, sym, subst}
use Rattle.std.proofs.lemmas.Result.{on_ok_weaker}
use Rattle.cd_base.specs.Lists.{OneOf}
use Rattle.cd_clause.specs.Numbers.{picked}
use Rattle.cd_clause.specs.declared.elem.Elem.{Elem}
use Rattle.cd_store.specs.Store.{StoreState}
use Rattle.cd_context.specs.FactLists.{state_of, told_in}
use Rattle.cd_context.specs.Justified.{IsInTurn}
use Rattle.cd_context.specs.Owes.{Owes}
use Rattle.cd_context.specs.TakeUp.{stored_before}
use Rattle.cd_context.proofs.Appended.{appended_only, appended_every}
use Rattle.cd_context.proofs.Sent.{sends_less, owed_by_none, none_below_zero}
use Rattle.cd_context.proofs.TakeUps.{none_waits}
use Rattle.cd_context.proofs.ToldMore.{closed_at_first, concluded_at_first}
use Rattle.cd_context.proofs.context.close_first.Goals as goal

pub close_since-requires-clause-closed : goal.close_since-requires-clause-closed
close_since-requires-clause-closed c =
    closed_at_first c.args.index.now.normal c.args.key.now (told_in c.args.facts.now) c.args.store.now c.on_key.new.out.items c.requires.empty (ap told_in c.requires.told)
    (appended_every _ _ _ _ c.new-conclusions.ensures.items c.in_ok-on_key.ensures refl)

pub close_since-requires-clause-in_turn : goal.close_since-requires-clause-in_turn
close_since-requires-clause-in_turn c =
    subst (λ (s : StoreState). IsInTurn c.args.index.now.normal c.args.key.now (told_in c.args.facts.now) s.clauses) (sym c.requires.empty) tt

pub close_since-requires-clause-concluded : goal.close_since-requires-clause-concluded
close_since-requires-clause-concluded c = λ d m.
    concluded_at_first c.args.index.now.normal c.args.key.now (told_in c.args.facts.now) c.args.store.now.clauses d (appended_only _ _ _ _ c.new-conclusions.ensures.items c.in_ok-on_key.ensures d m)

pub returns-clause-closed : goal.returns-clause-closed
returns-clause-closed c =
    let new = c.close_since.new.store in
    on_ok_weaker c.close_since.result (none_waits c.args.index.now.normal c.args.key.now (told_in c.args.facts.now) new.clauses new.live) c.close_since.ensures.closed

pub returns-clause-sends : goal.returns-clause-sends
returns-clause-sends c =
    let n = c.args.index.now.normal in
    let new = c.close_since.new.store in
    let none : (d : List Elem) → OneOf d (picked new.clauses (filter (λ k. nat_lt k (length c.args.store.now.clauses)) new.live)) → ⊥
    = subst (λ (s : StoreState). (d : List Elem) → OneOf d (picked new.clauses (filter (λ k. nat_lt k (length s.clauses)) new.live)) → ⊥) (sym c.requires.empty) (none_below_zero new.clauses new.live) in
    on_ok_weaker c.close_since.result
    (sends_less n (Owes n (state_of c.args.key.now (stored_before c.args.store.now new) c.args.facts.now)) (λ note. ⊥) _ c.args.out.now.items c.close_since.new.out.items (owed_by_none n _ none))
    c.close_since.ensures.sends
