use Rattle.cd_sample.specs.CoreRuns.{IsUnderWay}
use Rattle.cd_sample.proofs.core_tests.is_delivered_by_choices.Given as goal

abbrev pub invariant-loop-choice : goal.invariant-loop-choice
invariant-loop-choice g l = IsUnderWay 2 l.core
