use Rattle.std.proofs.Common.{◌≡◌, filter}
use Rattle.std.specs.List.{range_with_len}
use Rattle.cd_index.specs.Index.{is_free}
use Rattle.cd_index.proofs.by_atom.free_numbers.Given as goal

abbrev pub invariant-loop-number : goal.invariant-loop-number
invariant-loop-number l = l.free.items ≡ filter (is_free l.axioms) (range_with_len 0 l.number)
