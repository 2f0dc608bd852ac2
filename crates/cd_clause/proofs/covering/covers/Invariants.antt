use Rattle.std.proofs.Common.{length}
use Rattle.cd_clause.proofs.Strengths.{IsWalked}
use Rattle.cd_clause.proofs.covering.covers.Given as goal

abbrev pub invariant-loop-wanted : goal.invariant-loop-wanted
invariant-loop-wanted l = IsWalked l.left l.right l.wanted l.rest

abbrev pub decreases-loop-wanted : goal.decreases-loop-wanted
decreases-loop-wanted l = length l.wanted
