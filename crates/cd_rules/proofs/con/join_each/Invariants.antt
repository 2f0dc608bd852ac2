use Rattle.cd_rules.specs.Partners.{IsJoin}
use Rattle.cd_rules.proofs.EachItem.{SoFar}
use Rattle.cd_rules.proofs.con.join_each.Given as goal

abbrev pub invariant-loop-clause : goal.invariant-loop-clause
invariant-loop-clause l = SoFar (IsJoin l.others) l.clauses l.clause-index l.initial.found.items l.found.items
