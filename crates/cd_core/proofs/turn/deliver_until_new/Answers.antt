use Rattle.std.proofs.Common.{◌≡◌, subst, sym, ◌∙◌, arith}
use Rattle.cd_actor.specs.Cells.{HadOrPends, total}
use Rattle.cd_core.proofs.turn.deliver_until_new.Goals as goal

pub returns-then-contexts-contexts_before-clause-keeps :
    goal.returns-then-contexts-contexts_before-clause-keeps
returns-then-contexts-contexts_before-clause-keeps g c x h =
    c.in_ok-deliver_to.ensures.keeps x (subst (λ r. HadOrPends g.A.Actor.meaning c.turns.cells.items r x) c.in-Some.ensures (c.turns.invariant.keeps x h))

pub returns-then-contexts-contexts_before-clause-had :
    goal.returns-then-contexts-contexts_before-clause-had
returns-then-contexts-contexts_before-clause-had g c x h =
    c.in_ok-deliver_to.ensures.had x (c.turns.invariant.had x h)

pub returns-then-contexts-contexts_before-clause-family :
    goal.returns-then-contexts-contexts_before-clause-family
returns-then-contexts-contexts_before-clause-family g c f of =
    c.in_ok-deliver_to.ensures.family f (c.turns.invariant.family f of)

pub returns-then-contexts-contexts_before-clause-turn :
    goal.returns-then-contexts-contexts_before-clause-turn
returns-then-contexts-contexts_before-clause-turn g c = λ _.
    let i = c.turns.invariant in
    record {
      before = c.turns.cells.items;
      message = (c.in-Some.cell, c.in-Some.message);
      out = _;
      had = i.had;
      few_contexts = let e : c.turns.contexts ≡ total g.A.Actor.meaning.contexts c.turns.cells.items = i.contexts in omega arith;
      few_facts = let e : c.turns.facts ≡ total g.A.Actor.meaning.facts c.turns.cells.items = i.facts in omega arith;
      turn = c.in_ok-deliver_to.ensures.turn;
    }

pub turns-preserved : goal.turns-preserved
turns-preserved g c = record {
  runs = c.in_ok-deliver_to.ensures.runs;
  keeps = λ x h. c.in_ok-deliver_to.ensures.keeps x (subst (λ r. HadOrPends g.A.Actor.meaning c.turns.cells.items r x) c.in-Some.ensures (c.turns.invariant.keeps x h));
  had = λ x h. c.in_ok-deliver_to.ensures.had x (c.turns.invariant.had x h);
  family = λ f of. c.in_ok-deliver_to.ensures.family f (c.turns.invariant.family f of);
  contexts = c.in_ok-deliver_to.ensures.contexts;
  facts = c.in_ok-deliver_to.ensures.facts;
  same_contexts = c.if-contexts-contexts_before.false;
  same_facts = c.if-facts-facts_before.false;
}

pub returns-clause-keeps : goal.returns-clause-keeps
returns-clause-keeps g c x h =
    let e = c.in_default.ensures in subst (λ r. HadOrPends g.A.Actor.meaning c.turns.cells.items r x) (e.0 ∙ sym e.1) (c.turns.invariant.keeps x h)
