use Rattle.std.proofs.Common.{ℕ, ◌≡◌, ◌<◌, ◌≤◌, ◌∷◌, length, take, slice_index}
use Rattle.std.specs.List.{All, Contains}
use Rattle.cd_taxonomy.proofs.representatives.first_with_count.Given as goal

abbrev pub invariant-loop-atom : goal.invariant-loop-atom
invariant-loop-atom l = record {
  class : l.first < length l.counts;
  counted : slice_index l.counts l.first ≡ slice_index l.counts l.c;
  listed : Contains (l.c ∷ l.atoms) l.first;
  first : All (λ (atom : ℕ). slice_index l.counts atom ≡ slice_index l.counts l.c → slice_index l.places l.first ≤ slice_index l.places atom) (take l.atom-index l.atoms);
}
