use Rattle.std.proofs.Common.{take}
use Rattle.std.specs.List.{All}
use Rattle.cd_meaning.specs.Truth.{HasSameMembers}
use Rattle.cd_meaning.proofs.truth.has_members_of_each.Given as goal

abbrev pub invariant-loop-operand : goal.invariant-loop-operand
invariant-loop-operand l = All (HasSameMembers l.i l.first) (take l.operand-index l.operands)
