use Rattle.std.proofs.Common.{length}
use Rattle.cd_actor.proofs.Joining.{IsJoining}
use Rattle.cd_actor.proofs.owed.put_not_had.Given as goal

abbrev pub invariant-messages : goal.invariant-messages
invariant-messages g l = IsJoining g.A.Actor.meaning l.cells l.fn.messages l.initial.pending l.messages l.pending

abbrev pub decreases-messages : goal.decreases-messages
decreases-messages g l = length l.messages
