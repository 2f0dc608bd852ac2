use Rattle.std.proofs.Common.{◌≡◌, ◌++◌, take}
use Rattle.cd_sample.proofs.NumberCells.{all_owed}
use Rattle.cd_sample.proofs.numbers.NumbersActor.list_owed.Given as goal

abbrev pub invariant-loop-number : goal.invariant-loop-number
invariant-loop-number l = l.out ≡ l.initial.out ++ all_owed l.self.1 (take l.number-index l.self.2)
