use Rattle.std.proofs.Common.{length}
use Rattle.cd_context.specs.OwedParts.{IsUsefulNote}
use Rattle.cd_base.proofs.Appending.{HasWalked}
use Rattle.cd_base.specs.Lists.{OneOf}
use Rattle.cd_context.proofs.notes.tell_atom.Given as goal

abbrev pub invariant-links : goal.invariant-links
invariant-links l = HasWalked OneOf (IsUsefulNote l.index.normal l.key l.atom l.alone) l.initial.rest l.rest l.fn.out.items l.out.items

abbrev pub decreases-links : goal.decreases-links
decreases-links l = length l.rest
