use Rattle.std.proofs.Common.{take}
use Rattle.std.specs.List.{All}
use Rattle.cd_meaning.specs.Truth.{IsDistinctlyApart}
use Rattle.cd_meaning.proofs.truth.is_apart_from_each.Given as goal

abbrev pub invariant-loop-operand : goal.invariant-loop-operand
invariant-loop-operand l = All (IsDistinctlyApart l.i l.first) (take l.operand-index l.operands)
