use Rattle.std.proofs.Common.{◌≡◌, ◌⊎◌, true, length}
use Rattle.cd_base.specs.Lists.{OneOf, Within}
use Rattle.cd_clause.specs.Covering.{is_lower}
use Rattle.cd_clause.specs.declared.elem.Elem.{Elem}
use Rattle.cd_clause.proofs.covering.not_lower.Given as goal

abbrev pub invariant-loop-rest : goal.invariant-loop-rest
invariant-loop-rest l = record { fewer : Within l.rest l.all; lower : (f : Elem) → OneOf f l.all → OneOf f l.rest ⊎ (is_lower f l.elem ≡ true) }

abbrev pub decreases-loop-rest : goal.decreases-loop-rest
decreases-loop-rest l = length l.rest
