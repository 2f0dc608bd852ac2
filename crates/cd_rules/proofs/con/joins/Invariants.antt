use Rattle.std.proofs.Common.{[]}
use Rattle.cd_rules.specs.Partners.{IsJoinBy}
use Rattle.cd_rules.proofs.EachItem.{SoFar}
use Rattle.cd_rules.proofs.con.joins.Given as goal

abbrev pub invariant-loop-partner : goal.invariant-loop-partner
invariant-loop-partner l = SoFar (IsJoinBy l.clauses l.atom l.unions) l.partners l.partner-index [] l.found.items
