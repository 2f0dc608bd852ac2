use Rattle.std.proofs.Common.{inl, ◌∷◌, set, refl, subst, sym, arith}
use Rattle.std.proofs.lemmas.Grind.{common_steps}
use Rattle.cd_actor.specs.Cells.{At}
use Rattle.cd_core.specs.State.{Runs, KeepsAll}
use Rattle.cd_actor.proofs.At.{at_index}
use Rattle.cd_actor.proofs.Sent.{sent_none}
use Rattle.cd_core.proofs.Turns.{turn_had, turn_family, turn_runs, turn_keeps, total_step, rises}
use Rattle.cd_core.proofs.turn.deliver_to.Goals as goal

pub index_mut-actor-requires : goal.index_mut-actor-requires
index_mut-actor-requires g c = let h = (c.requires.runs.lawful (c.args.cell, c.args.message) (inl refl)).0 in grind (arith, common_steps)

pub deliver-requires-clause-whole : goal.deliver-requires-clause-whole
deliver-requires-clause-whole g c =
    let h = (c.requires.runs.lawful (c.args.cell, c.args.message) (inl refl)).0 in
    c.requires.runs.cells_ok.whole c.args.cell c.index_mut-actor.result.now (at_index _ _ _ h c.index_mut-actor.ensures.value)

pub deliver-requires-clause-lawful : goal.deliver-requires-clause-lawful
deliver-requires-clause-lawful g c =
    let h = c.requires.runs.lawful (c.args.cell, c.args.message) (inl refl) in
    let at : At c.args.cells.now.items c.args.cell c.index_mut-actor.result.now = at_index _ _ _ h.0 c.index_mut-actor.ensures.value in
    subst (λ p. g.A.Actor.meaning.lawful c.index_mut-actor.result.now p c.args.message) (sym (c.requires.runs.cells_ok.place _ _ at)) (h.1 _ at)

pub returns-clause-runs : goal.returns-clause-runs
returns-clause-runs g c =
    let h = (c.requires.runs.lawful (c.args.cell, c.args.message) (inl refl)).0 in
    let at : At c.args.cells.now.items c.args.cell c.index_mut-actor.result.now = at_index _ _ _ h c.index_mut-actor.ensures.value in
    let e = c.in_ok-deliver.ensures in
    subst (λ q. Runs g.A.Actor.meaning (set c.args.cells.now.items c.args.cell c.deliver.new.self) q) (sym e.sends.follows)
    (turn_runs g.A.Actor.meaning g.met.A.Actor.lawful_below g.met.A.Actor.same_places g.met.A.Actor.same_lawful _ _ _ _ _ _ _ c.requires.runs at e.keeps e.delivers e.sends.each)

pub returns-clause-keeps : goal.returns-clause-keeps
returns-clause-keeps g c =
    let h = (c.requires.runs.lawful (c.args.cell, c.args.message) (inl refl)).0 in
    let at : At c.args.cells.now.items c.args.cell c.index_mut-actor.result.now = at_index _ _ _ h c.index_mut-actor.ensures.value in
    let e = c.in_ok-deliver.ensures in
    subst (λ q. KeepsAll g.A.Actor.meaning c.args.cells.now.items ((c.args.cell, c.args.message) ∷ c.args.pending.now) (set c.args.cells.now.items c.args.cell c.deliver.new.self) q) (sym e.sends.follows)
    (turn_keeps g.A.Actor.meaning g.met.A.Actor.lawful_below g.met.A.Actor.same_places g.met.A.Actor.same_lawful _ _ _ _ _ _ _ c.requires.runs at e.keeps e.delivers e.sends.each)

pub returns-clause-had : goal.returns-clause-had
returns-clause-had g c =
    let h = (c.requires.runs.lawful (c.args.cell, c.args.message) (inl refl)).0 in
    let at : At c.args.cells.now.items c.args.cell c.index_mut-actor.result.now = at_index _ _ _ h c.index_mut-actor.ensures.value in
    let e = c.in_ok-deliver.ensures in
    turn_had g.A.Actor.meaning g.met.A.Actor.lawful_below g.met.A.Actor.same_places g.met.A.Actor.same_lawful _ _ _ _ _ _ _ c.requires.runs at e.keeps e.delivers e.sends.each

pub returns-clause-family : goal.returns-clause-family
returns-clause-family g c =
    let h = (c.requires.runs.lawful (c.args.cell, c.args.message) (inl refl)).0 in
    let at : At c.args.cells.now.items c.args.cell c.index_mut-actor.result.now = at_index _ _ _ h c.index_mut-actor.ensures.value in
    let e = c.in_ok-deliver.ensures in
    turn_family g.A.Actor.meaning g.met.A.Actor.lawful_below g.met.A.Actor.same_places g.met.A.Actor.same_lawful _ _ _ _ _ _ _ c.requires.runs at e.keeps e.delivers e.sends.each

pub returns-clause-contexts : goal.returns-clause-contexts
returns-clause-contexts g c =
    let h = (c.requires.runs.lawful (c.args.cell, c.args.message) (inl refl)).0 in
    let at : At c.args.cells.now.items c.args.cell c.index_mut-actor.result.now = at_index _ _ _ h c.index_mut-actor.ensures.value in
    let k = c.in_ok-deliver.ensures.keeps.contexts in
    total_step g.A.Actor.meaning.contexts c.args.cells.now.items c.args.cell _ _ _ _ _ _ at c.requires.contexts c.contexts-contexts_before.ensures c.contexts-contexts_after.ensures (omega arith) c.saturating_add.ensures

pub returns-clause-facts : goal.returns-clause-facts
returns-clause-facts g c =
    let h = (c.requires.runs.lawful (c.args.cell, c.args.message) (inl refl)).0 in
    let at : At c.args.cells.now.items c.args.cell c.index_mut-actor.result.now = at_index _ _ _ h c.index_mut-actor.ensures.value in
    let k = c.in_ok-deliver.ensures.keeps.facts in
    total_step g.A.Actor.meaning.facts c.args.cells.now.items c.args.cell _ _ _ _ _ _ at c.requires.facts c.facts-facts_before.ensures c.facts-facts_after.ensures (omega arith) c.saturating_add-2.ensures

pub returns-clause-rises : goal.returns-clause-rises
returns-clause-rises g c l m =
    let h = (c.requires.runs.lawful (c.args.cell, c.args.message) (inl refl)).0 in
    let at : At c.args.cells.now.items c.args.cell c.index_mut-actor.result.now = at_index _ _ _ h c.index_mut-actor.ensures.value in
    let e = c.in_ok-deliver.ensures in
    rises g.A.Actor.meaning c.args.cells.now.items c.args.cell c.args.message c.index_mut-actor.result.now c.deliver.new.self _ _ _ _ _ _ _ _ _ _ at e.keeps e.delivers.risen e.quiet
    c.requires.contexts c.requires.facts c.contexts-contexts_before.ensures c.facts-facts_before.ensures c.contexts-contexts_after.ensures c.facts-facts_after.ensures c.saturating_add.ensures c.saturating_add-2.ensures l m

pub returns-clause-turn : goal.returns-clause-turn
returns-clause-turn g c =
    let h = (c.requires.runs.lawful (c.args.cell, c.args.message) (inl refl)).0 in
    let at : At c.args.cells.now.items c.args.cell c.index_mut-actor.result.now = at_index _ _ _ h c.index_mut-actor.ensures.value in
    let e = c.in_ok-deliver.ensures in
    record {
      old = c.index_mut-actor.result.now;
      new = c.deliver.new.self;
      at = at;
      is = refl;
      delivery = record { keeps = e.keeps; lawful = e.sends.each; delivers = e.delivers; again = e.again; quiet = λ k. sent_none _ _ (e.quiet k) };
    }
