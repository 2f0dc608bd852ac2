use Rattle.std.proofs.Common.{◌≡◌, ◌+◌, ◌<◌, ◌≤◌, ◌⊎◌, inr, subst, sym, ◌∙◌, arith}
use Rattle.cd_actor.specs.Cells.{AreOf, Had, total}
use Rattle.cd_actor.specs.Maxima.{AreBelow, Reaches}
use Rattle.cd_core.specs.State.{CoreState}
use Rattle.cd_core.specs.Ends.{IsEnd, IsOneDeliveryPast}
use Rattle.cd_core.proofs.Turns.{settled, past_more}
use Rattle.cd_core.proofs.cores.Core.finish.Goals as goal

pub rounds-preserved : goal.rounds-preserved
rounds-preserved g c =
    let contexts : c.rounds.contexts < c.args.limits.now.max_contexts = c.in_default.ensures.few_contexts in
    let facts : c.rounds.facts < c.args.limits.now.max_facts = c.in_default.ensures.few_facts in
    let more_contexts : c.rounds.contexts + 1 ≤ c.args.limits.now.max_contexts = omega arith in
    let more_facts : c.rounds.facts + 1 ≤ c.args.limits.now.max_facts = omega arith in
    record {
      runs = c.in-Ok-true.ensures.runs;
      keeps = λ x h. c.in-Ok-true.ensures.keeps x (c.rounds.invariant.keeps x h);
      had = λ x h. c.in-Ok-true.ensures.had x (c.rounds.invariant.had x h);
      family = λ f of. c.in-Ok-true.ensures.family f (c.rounds.invariant.family f of);
      contexts = c.in-Ok-true.ensures.contexts;
      facts = c.in-Ok-true.ensures.facts;
      at_once = inr (past_more g.A.Actor.meaning _ c.rounds.cells.items _ _ c.args.limits.now.max_contexts c.args.limits.now.max_facts _ c.rounds.invariant.had more_contexts more_facts (c.in-Ok-true.ensures.turn c.in-Ok-true.field-0-test));
    }

pub returns-in-Ok-false-clause-ok : goal.returns-in-Ok-false-clause-ok
returns-in-Ok-false-clause-ok g c =
    let e = c.in-Ok-false.ensures in
    let d = e.done c.in-Ok-false.field-0-test in
    let m = g.A.Actor.meaning in
    let after = c.deliver_until_new.new.cells.items in
    let max_contexts = c.args.limits.now.max_contexts in let max_facts = c.args.limits.now.max_facts in
    subst (λ (v : CoreState _ _). IsEnd m v.cells v.pending c.args.limits.now.max_contexts c.args.limits.now.max_facts after) c.self.view_is record {
      settled = settled m c.self.inside.cells.items c.self.inside.pending after c.deliver_until_new.new.pending e.runs (λ x h. e.keeps x (c.rounds.invariant.keeps x h)) (λ f of. e.family f (c.rounds.invariant.family f of)) d.0;
      few = subst (λ n. AreBelow n (total m.facts after) max_contexts max_facts) (sym d.1 ∙ e.contexts)
          (subst (λ n. AreBelow c.rounds.contexts n max_contexts max_facts) (sym d.2 ∙ e.facts) c.in_default.ensures);
    }

pub returns-in-Some-clause-stop : goal.returns-in-Some-clause-stop
returns-in-Some-clause-stop g c =
    let m = g.A.Actor.meaning in
    let i = c.rounds.invariant in
    let e = c.self.view_is in
    let cells = c.rounds.cells.items in
    let max_contexts = c.args.limits.now.max_contexts in let max_facts = c.args.limits.now.max_facts in
    let kind = c.in-Some.kind in let number = c.in-Some.number in (
      i.runs.cells_ok,
      λ x h. i.had x (subst (λ (v : CoreState _ _). Had m v.cells x) (sym e) h),
      λ f of. i.family f (subst (λ (v : CoreState _ _). AreOf m f v.cells) (sym e) of),
      subst (λ n. Reaches n (total m.facts cells) max_contexts max_facts kind number) i.contexts
          (subst (λ n. Reaches c.rounds.contexts n max_contexts max_facts kind number) i.facts c.in-Some.ensures),
    )

pub returns-in-Some-clause-at_once : goal.returns-in-Some-clause-at_once
returns-in-Some-clause-at_once g c =
    let cells = c.rounds.cells.items in
    subst (λ (v : CoreState _ _). (cells ≡ v.cells) ⊎ IsOneDeliveryPast g.A.Actor.meaning v.cells c.args.limits.now.max_contexts c.args.limits.now.max_facts cells) c.self.view_is c.rounds.invariant.at_once
