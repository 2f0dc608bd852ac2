use Rattle.std.proofs.Common.{◌≡◌, ◌∷◌, inl, inr, map, nat_eq, true, refl, subst, IsPermutation}
use Rattle.std.specs.BinaryHeap.{heap_items}
use Rattle.std.specs.HashSet.{contains}
use Rattle.std.specs.List.{list_any}
use Rattle.cd_base.specs.Lists.{OneOf}
use Rattle.cd_context.specs.TakeUp.{IsPutInto}
use Rattle.cd_context.specs.Waits.{numbers}
use Rattle.cd_context.proofs.Least.{among_added, put_pairs, put_number}
use Rattle.cd_context.proofs.waiting.Waiting.put.Goals as goal

pub returns-clause-ok : goal.returns-clause-ok
returns-clause-ok c = subst (λ v. IsPutInto c.args.number (numbers v) (numbers (map (λ r. r.0) (heap_items c.push.new.self)))) c.self.view_is
    (put_number (λ r. r.0) (record { 0 = (c.args.elements, c.args.number) }) (heap_items c.self.inside.heap) (heap_items c.push.new.self) c.in_ok-push.ensures.permutation)

pub returns-clause-pairs : goal.returns-clause-pairs
returns-clause-pairs c = subst (λ v. IsPermutation ((c.args.elements, c.args.number) ∷ v) (map (λ r. r.0) (heap_items c.push.new.self))) c.self.view_is
    (put_pairs (λ r. r.0) (record { 0 = (c.args.elements, c.args.number) }) (heap_items c.self.inside.heap) (heap_items c.push.new.self) c.in_ok-push.ensures.permutation)

pub invariant_of-self-in_err-insert : goal.invariant_of-self-in_err-insert
invariant_of-self-in_err-insert c =
    let p : IsPutInto c.args.number (numbers (map (λ r. r.0) (heap_items c.self.inside.heap))) (numbers (map (λ r. r.0) (heap_items c.push.new.self)))
    = put_number (λ r. r.0) (record { 0 = (c.args.elements, c.args.number) }) (heap_items c.self.inside.heap) (heap_items c.push.new.self) c.in_ok-push.ensures.permutation in
    (c.in_ok-push.ensures.heap_order c.self.invariant.0, λ n e. p.isin n (inr (c.self.invariant.1 n (subst (λ keys. list_any (nat_eq n) keys ≡ true) c.in_err-insert.ensures.err e))))

pub invariant_of-self-2 : goal.invariant_of-self-2
invariant_of-self-2 c =
    let p : IsPutInto c.args.number (numbers (map (λ r. r.0) (heap_items c.self.inside.heap))) (numbers (map (λ r. r.0) (heap_items c.push.new.self)))
    = put_number (λ r. r.0) (record { 0 = (c.args.elements, c.args.number) }) (heap_items c.self.inside.heap) (heap_items c.push.new.self) c.in_ok-push.ensures.permutation in (
      c.in_ok-push.ensures.heap_order c.self.invariant.0,
      among_added (λ n. OneOf n (numbers (map (λ r. r.0) (heap_items c.push.new.self)))) (contains nat_eq c.self.inside.numbers) (contains nat_eq c.insert.new.self) c.args.number
          c.in_ok-insert.ensures.updates.0 (p.isin c.args.number (inl refl)) (λ n e. p.isin n (inr (c.self.invariant.1 n e))),
    )
