use Rattle.std.proofs.Common.{◌≡◌, ◌<◌, ◌↔◌, ℕ, [], get_or, length}
use Rattle.std.specs.List.{All, Contains}
use Rattle.std.specs.List.Sorted.{IsNonDecreasing}
use Rattle.cd_index.specs.Walk.{Leads}
use Rattle.cd_index.proofs.closure.Closure.of.Given as goal

abbrev pub invariant-loop-role : goal.invariant-loop-role
invariant-loop-role l = record {
  each : length l.above.items ≡ l.role;
  sorted : All IsNonDecreasing l.above.items;
  exact : (r s : ℕ) → r < l.role → Contains (get_or l.above.items r []) s ↔ Leads l.told.items r s;
}
