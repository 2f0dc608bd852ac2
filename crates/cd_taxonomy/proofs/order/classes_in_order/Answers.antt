-- The sort leaves the numbers in the one order that rises by the names.
use Rattle.std.proofs.Common.{length, subst, sym, ◌∙◌, ap, rules, List, ℕ}
use Rattle.std.specs.List.Sorted.{IsPermutation}
use Rattle.std.proofs.lemmas.Fn.{always_returns_same}
use Rattle.cd_meaning.specs.Hierarchy.{is_before}
use Rattle.cd_taxonomy.specs.Steps.{IsOrdering}
use Rattle.cd_taxonomy.proofs.NameOrder.{same_from_sort, is_before_order, classes_ordering, length-classes_in_order}
use Rattle.cd_taxonomy.proofs.order.classes_in_order.Goals as goal

pub returns-clause-order : goal.returns-clause-order
returns-clause-order c =
    same_from_sort c.args.names.now c.requires.distinct c.sort_unstable_by.new.self.items
    (subst (λ (xs : List ℕ). IsPermutation xs c.sort_unstable_by.new.self.items) c.in_ok-order.ensures c.sort_unstable_by.ensures.permutation)
    (c.sort_unstable_by.ensures.sorted (is_before c.args.names.now) (is_before_order c.args.names.now)
    (always_returns_same _ _ _ (λ a r f h. search rules)))

pub returns-clause-ordering : goal.returns-clause-ordering
returns-clause-ordering c = subst IsOrdering (sym (returns-clause-order c)) (classes_ordering c.args.names.now)

pub returns-clause-long : goal.returns-clause-long
returns-clause-long c = ap length (returns-clause-order c) ∙ length-classes_in_order c.args.names.now
