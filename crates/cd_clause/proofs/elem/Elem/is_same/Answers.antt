use Rattle.std.proofs.Common.{arith}
use Rattle.cd_clause.proofs.Elements.{same_numbers-pointwise}
use Rattle.cd_clause.proofs.elem.Elem.is_same.Goals as goal

pub returns-then-eq : goal.returns-then-eq
returns-then-eq c = grind (arith, same_numbers-pointwise)
