use Rattle.std.proofs.Common.{length}
use Rattle.cd_base.proofs.Appending.{HasWalked}
use Rattle.cd_base.specs.Lists.{OneOf}
use Rattle.cd_context.proofs.Owed.{ToldByOne}
use Rattle.cd_context.proofs.owing.tell_all.Given as goal

abbrev pub invariant-numbers : goal.invariant-numbers
invariant-numbers l = HasWalked OneOf (ToldByOne l.index.normal l.key l.links l.clauses) l.initial.rest l.rest l.fn.out.items l.out.items

abbrev pub decreases-numbers : goal.decreases-numbers
decreases-numbers l = length l.rest
