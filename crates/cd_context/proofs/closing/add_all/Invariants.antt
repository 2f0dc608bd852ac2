use Rattle.std.specs.Vec.Iter.{into_iter_items}
use Rattle.cd_context.specs.FactLists.{told_in}
use Rattle.cd_context.specs.Waits.{numbers}
use Rattle.cd_context.proofs.Adds.{IsAdding}
use Rattle.cd_context.proofs.closing.add_all.Given as goal

abbrev pub invariant-conclusions : goal.invariant-conclusions
invariant-conclusions l = record {
  can : goal.iterator-conclusions.can_next l.conclusion-iterator;
  ends : goal.iterator-conclusions.is_finite l.conclusion-iterator;
  adding : IsAdding l.index.normal l.key (told_in l.facts) l.initial.store (numbers l.initial.waiting) l.store (numbers l.waiting) (into_iter_items l.conclusion-iterator);
}
