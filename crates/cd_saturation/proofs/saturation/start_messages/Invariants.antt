use Rattle.cd_saturation.specs.Saturation.{AreStarts}
use Rattle.cd_saturation.proofs.saturation.start_messages.Given as goal

abbrev pub invariant-loop-class : goal.invariant-loop-class
invariant-loop-class l = AreStarts l.count l.class l.start.items
