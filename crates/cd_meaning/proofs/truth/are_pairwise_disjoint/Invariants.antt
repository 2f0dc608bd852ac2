use Rattle.std.proofs.Common.{take}
use Rattle.std.specs.List.{All}
use Rattle.cd_meaning.specs.Truth.{IsDistinctlyApart}
use Rattle.cd_meaning.proofs.truth.are_pairwise_disjoint.Given as goal

abbrev pub invariant-loop-operand : goal.invariant-loop-operand
invariant-loop-operand l = All (λ x. All (IsDistinctlyApart l.i x) l.operands) (take l.operand-index l.operands)
