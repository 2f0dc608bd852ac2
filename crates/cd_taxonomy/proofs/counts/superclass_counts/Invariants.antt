use Rattle.std.proofs.Common.{◌≡◌, length, map, take}
use Rattle.cd_base.specs.declared.answer.Answer.{Answer}
use Rattle.cd_taxonomy.specs.Steps.{superclasses}
use Rattle.cd_taxonomy.proofs.counts.superclass_counts.Given as goal

abbrev pub invariant-loop-answer : goal.invariant-loop-answer
invariant-loop-answer l = l.counts.items ≡ map (λ (answer : Answer). length (superclasses (length l.above) answer)) (take l.answer-index l.above)
