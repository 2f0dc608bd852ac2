use Rattle.std.proofs.Common.{take}
use Rattle.std.specs.List.{All}
use Rattle.cd_meaning.specs.Truth.{HasSameMembers}
use Rattle.cd_meaning.proofs.truth.have_same_members.Given as goal

abbrev pub invariant-loop-operand : goal.invariant-loop-operand
invariant-loop-operand l = All (λ x. All (HasSameMembers l.i x) l.operands) (take l.operand-index l.operands)
