use Rattle.std.proofs.Common.{take}
use Rattle.cd_index.specs.Lists.{AreLists}
use Rattle.cd_index.specs.Walk.{told_above}
use Rattle.cd_index.proofs.walk.told_above.Given as goal

abbrev pub invariant-loop-pair : goal.invariant-loop-pair
invariant-loop-pair l = AreLists l.roles l.told.items (told_above (take l.pair-index l.pairs))
