use Rattle.std.proofs.Common.{◌≡◌, ℕ, ◌||◌, ◌==◌, nat_eq, take}
use Rattle.std.specs.HashSet.{contains}
use Rattle.std.specs.List.{list_any}
use Rattle.cd_taxonomy.proofs.parents.cover_each.Given as goal

abbrev pub invariant-loop-atom : goal.invariant-loop-atom
invariant-loop-atom l = (b : ℕ) → contains nat_eq l.covered b ≡ (contains nat_eq l.initial.covered b || list_any (λ (atom : ℕ). atom == b) (take l.atom-index l.atoms))
