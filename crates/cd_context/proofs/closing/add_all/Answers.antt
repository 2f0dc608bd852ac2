use Rattle.std.proofs.Common.{◌≡◌, length, sym, subst, arith}
use Rattle.std.specs.Vec.Iter.{into_iter_items, into_iter_len}
use Rattle.std.proofs.lemmas.Grind.{common_steps}
use Rattle.std.proofs.lemmas.List.{nil_from_length}
use Rattle.cd_rules.specs.Facts.{ToldFacts}
use Rattle.cd_context.specs.FactLists.{told_in}
use Rattle.cd_context.specs.TakeUp.{ClosedUpTo, Continues}
use Rattle.cd_context.specs.Waits.{numbers}
use Rattle.cd_context.proofs.Adds.{IsAdding, continues_refl, add_held, add_new, add_turn, add_continues}
use Rattle.cd_context.proofs.closing.add_all.Goals as goal

pub conclusions-init : goal.conclusions-init
conclusions-init c =
    let told : ToldFacts = told_in c.args.facts.now in
    let e = c.into_iter-conclusion-iterator.ensures.into_iter_gives.0 in
    record {
      can = tt;
      ends = tt;
      adding = subst (λ q. IsAdding c.args.index.now.normal c.args.key.now told c.args.store.now (numbers c.args.waiting.now) c.args.store.now (numbers c.args.waiting.now) q) (sym e)
          record { closed = c.requires.closed; working = c.requires.working; concluded = c.requires.concluded; takes_up = omega arith; stays = λ k m w. (m, w); continues = continues_refl c.args.store.now };
    }

pub returns-in_err-add-clause-continues : goal.returns-in_err-add-clause-continues
returns-in_err-add-clause-continues c = subst (λ q. Continues c.args.store.now q) (sym c.in_err-add.ensures.err) c.conclusions.invariant.adding.continues

pub conclusions-preserved-in-Held : goal.conclusions-preserved-in-Held
conclusions-preserved-in-Held c = record {
  can = tt;
  ends = tt;
  adding =
      add_held c.args.index.now.normal c.args.key.now (told_in c.args.facts.now) c.args.store.now (numbers c.args.waiting.now) c.conclusions.store (numbers c.conclusions.waiting) (into_iter_items c.conclusions.conclusion-iterator) c.in-Some.conclusion (into_iter_items c.next.new.self)
      c.conclusions.invariant.adding c.in-Some.ensures.steps.0 c.add.new.self c.in_ok-add.field-0 c.in_ok-add.ensures.ok c.in_ok-add.ensures.store c.in-Held.field-0 c.in-Held.is;
}

pub conclusions-preserved : goal.conclusions-preserved
conclusions-preserved c = record {
  can = tt;
  ends = tt;
  adding =
      add_new c.args.index.now.normal c.args.key.now (told_in c.args.facts.now) c.args.store.now (numbers c.args.waiting.now) c.conclusions.store (numbers c.conclusions.waiting) (into_iter_items c.conclusions.conclusion-iterator) c.in-Some.conclusion (into_iter_items c.next.new.self)
      c.conclusions.invariant.adding c.in-Some.ensures.steps.0 c.add.new.self c.in_ok-add.field-0 c.in_ok-add.ensures.ok c.in_ok-add.ensures.store c.in-New.number c.in-New.is (numbers c.put.new.self) c.in_ok-put-in-New.ensures.ok;
}

pub returns-in_err-put-in-New-clause-in_turn : goal.returns-in_err-put-in-New-clause-in_turn
returns-in_err-put-in-New-clause-in_turn c =
    add_turn c.args.index.now.normal c.args.key.now (told_in c.args.facts.now) c.args.store.now (numbers c.args.waiting.now) c.conclusions.store (numbers c.conclusions.waiting) (into_iter_items c.conclusions.conclusion-iterator) c.in-Some.conclusion (into_iter_items c.next.new.self)
    c.conclusions.invariant.adding c.in-Some.ensures.steps.0 c.add.new.self c.in_ok-add.field-0 c.in_ok-add.ensures.ok c.in_ok-add.ensures.store c.in-New.number c.in-New.is

pub returns-in_err-put-in-New-clause-continues : goal.returns-in_err-put-in-New-clause-continues
returns-in_err-put-in-New-clause-continues c =
    add_continues c.args.index.now.normal c.args.key.now (told_in c.args.facts.now) c.args.store.now (numbers c.args.waiting.now) c.conclusions.store (numbers c.conclusions.waiting) (into_iter_items c.conclusions.conclusion-iterator) c.in-Some.conclusion (into_iter_items c.next.new.self)
    c.conclusions.invariant.adding c.in-Some.ensures.steps.0 c.add.new.self c.in_ok-add.field-0 c.in_ok-add.ensures.ok c.in_ok-add.ensures.store c.in-New.number c.in-New.is

pub returns-clause-closed : goal.returns-clause-closed
returns-clause-closed c =
    let told : ToldFacts = told_in c.args.facts.now in
    let z : into_iter_len c.conclusions.conclusion-iterator ≡ 0 = c.in-None.ensures.steps.0 in
    let l : length (into_iter_items c.conclusions.conclusion-iterator) ≡ 0 = grind (arith, common_steps) in
    subst (λ q. ClosedUpTo c.args.index.now.normal c.args.key.now told c.conclusions.store.clauses c.conclusions.store.live (numbers c.conclusions.waiting) q) (nil_from_length (into_iter_items c.conclusions.conclusion-iterator) l) c.conclusions.invariant.adding.closed
