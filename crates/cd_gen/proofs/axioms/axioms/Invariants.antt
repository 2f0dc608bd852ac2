use Rattle.std.proofs.Common.{◌≡◌}
use Rattle.cd_gen.specs.Generated.{generated_axioms}
use Rattle.cd_gen.proofs.axioms.axioms.Given as goal

abbrev pub invariant-loop-level : goal.invariant-loop-level
invariant-loop-level l = l.found.items ≡ generated_axioms l.level
