use Rattle.std.proofs.Common.{◌≡◌, ◌<◌, ℕ, length, get_or}
use Rattle.cd_taxonomy.proofs.order.places.Given as goal

abbrev pub invariant-loop-k : goal.invariant-loop-k
invariant-loop-k l = (length l.places.items ≡ l.n) × ((j : ℕ) → j < l.k → get_or l.places.items (get_or l.xs j 0) 0 ≡ j)
