use Rattle.std.proofs.Common.{[]}
use Rattle.cd_rules.proofs.Gathered.{HasGathered}
use Rattle.cd_context.proofs.FactRules.{OfLive}
use Rattle.cd_context.proofs.fact_rules.live_among.Given as goal

abbrev pub invariant-candidates : goal.invariant-candidates
invariant-candidates l = HasGathered (OfLive l.fn.candidates l.store.live) l.i [] l.numbers.items
