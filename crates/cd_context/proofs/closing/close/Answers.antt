use Rattle.std.proofs.Common.{ℕ, List, [], subst}
use Rattle.cd_rules.specs.Facts.{ToldFacts}
use Rattle.cd_context.specs.FactLists.{told_in}
use Rattle.cd_context.specs.Beside.{HasConcluded}
use Rattle.cd_context.specs.TakeUp.{ClosedUpTo}
use Rattle.cd_context.specs.Waits.{numbers}
use Rattle.cd_context.proofs.Adds.{continues_trans, working_taken}
use Rattle.cd_context.proofs.TakeUps.{not_waiting, not_waiting_in, taken_live, taken_dead}
use Rattle.cd_context.proofs.closing.close.Goals as goal

pub add_all-requires-clause-closed : goal.add_all-requires-clause-closed
add_all-requires-clause-closed c =
    let told : ToldFacts = told_in c.args.facts.now in
    let taken : List ℕ = not_waiting c.turns.store.live (numbers c.turns.waiting) in
    let every : HasConcluded c.args.index.now.normal c.args.key.now told c.turns.store.clauses c.turns.store.live (numbers c.take.new.self) c.in-Some.number c.in_ok-conclusions.conclusions.items
    = c.in_ok-conclusions.ensures.every in
    taken_live c.args.index.now.normal c.args.key.now told c.turns.store.clauses c.turns.store.live (numbers c.turns.waiting) (numbers c.take.new.self) c.in-Some.number c.in_ok-conclusions.conclusions.items c.turns.invariant.closed c.in-Some.ensures.taken
    (every taken (
      λ k m. (not_waiting_in c.turns.store.live (numbers c.turns.waiting) k m).0,
      λ k m w. (not_waiting_in c.turns.store.live (numbers c.turns.waiting) k m).1 (c.in-Some.ensures.taken.after k w),
    ))

pub add_all-requires-clause-working : goal.add_all-requires-clause-working
add_all-requires-clause-working c =
    working_taken c.args.index.now.normal c.args.key.now (told_in c.args.facts.now) c.turns.store.clauses (numbers c.turns.waiting) (numbers c.take.new.self) c.in-Some.number c.turns.invariant.working c.in-Some.ensures.taken

pub turns-preserved-then-not-is_live : goal.turns-preserved-then-not-is_live
turns-preserved-then-not-is_live c =
    let told : ToldFacts = told_in c.args.facts.now in
    record {
      closed = taken_dead c.args.index.now.normal c.args.key.now told c.turns.store.clauses c.turns.store.live (numbers c.turns.waiting) (numbers c.take.new.self) c.in-Some.number c.turns.invariant.closed c.in-Some.ensures.taken
          (λ m. let h = c.is_live.ensures.value.1 m in let k = c.if-not-is_live.true in cc);
      working = working_taken c.args.index.now.normal c.args.key.now told c.turns.store.clauses (numbers c.turns.waiting) (numbers c.take.new.self) c.in-Some.number c.turns.invariant.working c.in-Some.ensures.taken;
      continues = c.turns.invariant.continues;
    }

pub turns-preserved : goal.turns-preserved
turns-preserved c = record {
  closed = c.in_ok-add_all.ensures.closed;
  working = c.in_ok-add_all.ensures.working;
  continues = continues_trans c.args.store.now c.turns.store c.add_all.new.store c.turns.invariant.continues c.in_ok-add_all.ensures.continues;
}

pub returns-in_err-add_all-clause-continues : goal.returns-in_err-add_all-clause-continues
returns-in_err-add_all-clause-continues c =
    continues_trans c.args.store.now c.turns.store c.add_all.new.store c.turns.invariant.continues c.in_err-add_all.ensures.continues

pub returns-clause-closed : goal.returns-clause-closed
returns-clause-closed c = subst (λ w. ClosedUpTo c.args.index.now.normal c.args.key.now (told_in c.args.facts.now) c.turns.store.clauses c.turns.store.live (numbers w) []) c.in_default.ensures c.turns.invariant.closed
