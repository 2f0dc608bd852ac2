use Rattle.cd_index.proofs.Filing.{IsFiledUpTo}
use Rattle.cd_index.proofs.by_atom.file_numbers.Given as goal

abbrev pub invariant-loop-number : goal.invariant-loop-number
invariant-loop-number l = IsFiledUpTo l.axioms l.atoms l.number l.filed.items
