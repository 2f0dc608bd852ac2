use Rattle.std.proofs.Common.{map}
use Rattle.cd_clause.specs.declared.elem.Elem.TheVariants.{Plain}
use Rattle.cd_rules.specs.Partners.{IsJoin}
use Rattle.cd_rules.proofs.EachItem.{SoFar}
use Rattle.cd_rules.proofs.con.conclude_each.Given as goal

abbrev pub invariant-loop-base : goal.invariant-loop-base
invariant-loop-base l = SoFar (IsJoin (map Plain l.atoms)) l.bases l.base-index l.initial.out.items l.out.items
