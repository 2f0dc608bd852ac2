use Rattle.std.proofs.Common.{[], ℕ}
use Rattle.cd_base.specs.Lists.{OneOf}
use Rattle.cd_store.proofs.Gaining.{HasGained}
use Rattle.cd_context.specs.Waits.{numbers}
use Rattle.cd_context.proofs.Besides.{OfTakenUp}
use Rattle.cd_context.proofs.beside.taken_up.Given as goal

abbrev pub invariant-candidates : goal.invariant-candidates
invariant-candidates l = record {
  live : (k : ℕ) → OneOf k l.others.items → OneOf k l.store.live;
  every : HasGained (OfTakenUp l.fn.candidates l.store.live (numbers l.waiting) l.premise) l.i [] l.others.items;
}
