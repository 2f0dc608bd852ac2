use Rattle.std.proofs.Common.{◌≡◌, length, ◌∙◌, ap, arith}
use Rattle.std.specs.Vec.Iter.{into_iter_items, into_iter_len}
use Rattle.std.proofs.lemmas.Grind.{common_steps}
use Rattle.cd_actor.specs.Cells.{total}
use Rattle.cd_core.proofs.Begins.{begun}
use Rattle.cd_core.proofs.cores.Core.resume.Goals as goal

pub returns-clause-sound : goal.returns-clause-sound
returns-clause-sound g c =
    let z : into_iter_len c.loop-cell.cell-iterator ≡ 0 = c.in-None.ensures.steps.0 in
    let l : length (into_iter_items c.loop-cell.cell-iterator) ≡ 0 = grind (arith, common_steps) in
    let o = c.in_ok-put_owed.ensures in
    (begun g.A.Actor.meaning c.args.cells.items _ c.args.start.items c.loop-cell.pending (into_iter_items c.loop-cell.cell-iterator) c.put_owed.new.pending
    c.requires.cells c.requires.start c.loop-cell.invariant.is l o.follows c.deref.ensures.value o.owed o.lawful o.covered).0

pub returns-clause-begun : goal.returns-clause-begun
returns-clause-begun g c =
    let z : into_iter_len c.loop-cell.cell-iterator ≡ 0 = c.in-None.ensures.steps.0 in
    let l : length (into_iter_items c.loop-cell.cell-iterator) ≡ 0 = grind (arith, common_steps) in
    let o = c.in_ok-put_owed.ensures in
    (begun g.A.Actor.meaning c.args.cells.items _ c.args.start.items c.loop-cell.pending (into_iter_items c.loop-cell.cell-iterator) c.put_owed.new.pending
    c.requires.cells c.requires.start c.loop-cell.invariant.is l o.follows c.deref.ensures.value o.owed o.lawful o.covered).1

pub invariant_of-result : goal.invariant_of-result
invariant_of-result g c =
    let m = g.A.Actor.meaning in
    let z : into_iter_len c.loop-cell.cell-iterator ≡ 0 = c.in-None.ensures.steps.0 in
    let l : length (into_iter_items c.loop-cell.cell-iterator) ≡ 0 = grind (arith, common_steps) in
    let o = c.in_ok-put_owed.ensures in
    let runs = (begun g.A.Actor.meaning c.args.cells.items _ c.args.start.items c.loop-cell.pending (into_iter_items c.loop-cell.cell-iterator) c.put_owed.new.pending
    c.requires.cells c.requires.start c.loop-cell.invariant.is l o.follows c.deref.ensures.value o.owed o.lawful o.covered).0 in record {
      runs = λ _. runs;
      contexts_are = λ _. c.sum_contexts-contexts.ensures ∙ ap (λ q. total m.contexts q) c.deref-2.ensures.value;
      facts_are = λ _. c.sum_facts-facts.ensures ∙ ap (λ q. total m.facts q) c.deref-3.ensures.value;
    }
