use Rattle.std.proofs.Common.{filter}
use Rattle.std.specs.List.{range_with_len}
use Rattle.cd_index.specs.Index.{has, left_of}
use Rattle.cd_index.specs.Lists.{AreLists}
use Rattle.cd_index.proofs.by_atom.numbers_by_atom.Given as goal

abbrev pub invariant-loop-number : goal.invariant-loop-number
invariant-loop-number l = AreLists l.atoms l.lists.items (λ atom. filter (λ k. has atom (left_of l.axioms k)) (range_with_len 0 l.number))
