use Rattle.std.proofs.Common.{◌≡◌}
use Rattle.cd_gen.specs.Generated.{generated_classes}
use Rattle.cd_gen.proofs.names.classes.Given as goal

abbrev pub invariant-loop-level : goal.invariant-loop-level
invariant-loop-level l = l.found.items ≡ generated_classes l.level
