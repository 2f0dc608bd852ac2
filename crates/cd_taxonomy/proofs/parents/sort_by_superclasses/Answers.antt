use Rattle.std.proofs.Common.{Bool, ltb, arith, rules}
use Rattle.std.specs.Cmp.{IsStrictWeakOrder}
use Rattle.std.specs.List.Sorted.{IsSortedBy}
use Rattle.std.proofs.lemmas.Bool.{ltb-false}
use Rattle.std.proofs.lemmas.List.Sorted.{IsStrictWeakOrder-by_number, IsStrictWeakOrder-flip, answers_always, sorted_far}
use Rattle.cd_taxonomy.specs.declared.parents.Candidate.{Candidate}
use Rattle.cd_taxonomy.proofs.parents.sort_by_superclasses.Goals as goal

abbrev has_more : Candidate → Candidate → Bool
has_more c d = ltb (d.superclasses) (c.superclasses)

has_more_order : IsStrictWeakOrder has_more
has_more_order = IsStrictWeakOrder-flip (λ (c d : Candidate). ltb (c.superclasses) (d.superclasses)) (IsStrictWeakOrder-by_number (λ (c : Candidate). c.superclasses))

pub returns-clause-sorted : goal.returns-clause-sorted
returns-clause-sorted c i j d before within =
    let up : IsSortedBy has_more c.sort_unstable_by.new.self.items
    = c.sort_unstable_by.ensures.sorted has_more has_more_order (answers_always _ _ _ (λ f a r g h. search rules)) in
    ltb-false _ _ (sorted_far has_more has_more_order c.sort_unstable_by.new.self.items up i j d (omega arith) within)
