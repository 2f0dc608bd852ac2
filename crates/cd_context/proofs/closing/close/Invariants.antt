use Rattle.std.proofs.Common.{◌-◌, ◌^◌, [], length}
use Rattle.cd_context.specs.FactLists.{told_in}
use Rattle.cd_context.specs.TakeUp.{ClosedUpTo, IsWorking, Continues}
use Rattle.cd_context.specs.Waits.{numbers}
use Rattle.cd_context.proofs.closing.close.Given as goal

abbrev pub invariant-turns : goal.invariant-turns
invariant-turns l = record {
  closed : ClosedUpTo l.index.normal l.key (told_in l.facts) l.store.clauses l.store.live (numbers l.waiting) [];
  working : IsWorking l.index.normal l.key (told_in l.facts) l.store.clauses (numbers l.waiting);
  continues : Continues l.initial.store l.store;
}

-- each turn takes one more clause up, and there are fewer than 2 ^ 64
abbrev pub decreases-turns : goal.decreases-turns
decreases-turns l = 2 ^ 64 - (length l.store.clauses - length l.waiting)
