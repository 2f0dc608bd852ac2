use Rattle.std.proofs.Common.{take}
use Rattle.cd_rules.specs.Facts.{IsDead}
use Rattle.cd_rules.proofs.dead.is_dead.Given as goal

abbrev pub invariant-loop-fact : goal.invariant-loop-fact
invariant-loop-fact l = IsDead (take l.fact-index l.facts) l.role l.key → ⊥
