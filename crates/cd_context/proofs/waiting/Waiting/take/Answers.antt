use Rattle.std.proofs.Common.{map, nat_eq, subst}
use Rattle.std.specs.BinaryHeap.{heap_items}
use Rattle.std.specs.HashSet.{contains}
use Rattle.cd_base.specs.Lists.{OneOf}
use Rattle.cd_context.specs.Waits.{numbers, IsLeastTaken}
use Rattle.cd_context.proofs.Least.{among_removed, least_taken}
use Rattle.cd_context.proofs.waiting.Waiting.take.Goals as goal

pub returns : goal.returns
returns c = subst (λ v. IsLeastTaken c.in-Some.least.0.1 v (map (λ r. r.0) (heap_items c.pop.new.self))) c.self.view_is
    (least_taken (λ r. r.0) c.in-Some.least (heap_items c.self.inside.heap) (heap_items c.pop.new.self) c.in-Some.ensures.permutation (c.in-Some.ensures.heap_order c.self.invariant.0).1)

pub invariant_of-self-2 : goal.invariant_of-self-2
invariant_of-self-2 c =
    let h = c.in-Some.ensures.heap_order c.self.invariant.0 in
    let t : IsLeastTaken c.in-Some.least.0.1 (map (λ r. r.0) (heap_items c.self.inside.heap)) (map (λ r. r.0) (heap_items c.pop.new.self))
    = least_taken (λ r. r.0) c.in-Some.least (heap_items c.self.inside.heap) (heap_items c.pop.new.self) c.in-Some.ensures.permutation h.1 in (
      h.0,
      among_removed (λ n. OneOf n (numbers (map (λ r. r.0) (heap_items c.self.inside.heap)))) (λ n. OneOf n (numbers (map (λ r. r.0) (heap_items c.pop.new.self)))) (contains nat_eq c.self.inside.numbers) (contains nat_eq c.remove.new.self) c.in-Some.least.0.1
          c.remove.ensures.updates.0 c.self.invariant.1 t.taken.before,
    )
