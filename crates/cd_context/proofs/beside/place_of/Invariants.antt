use Rattle.std.proofs.Common.{◌≡◌, ◌<◌, ℕ, slice_index_or}
use Rattle.cd_context.proofs.beside.place_of.Given as goal

abbrev pub invariant-atoms : goal.invariant-atoms
invariant-atoms l = (k : ℕ) → k < l.i → slice_index_or l.atoms k 0 ≡ l.fn.atom → ⊥
