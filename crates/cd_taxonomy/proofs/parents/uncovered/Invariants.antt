use Rattle.std.proofs.Common.{◌≡◌, ℕ, nat_eq, map, take}
use Rattle.std.specs.HashSet.{contains}
use Rattle.std.specs.List.{list_any}
use Rattle.cd_taxonomy.specs.Covered.{class_of, covers, uncovered}
use Rattle.cd_taxonomy.proofs.parents.uncovered.Given as goal

abbrev pub invariant-loop-candidate : goal.invariant-loop-candidate
invariant-loop-candidate l = record {
  found : l.found.items ≡ uncovered (covers l.above) (map class_of (take l.candidate-index l.candidates));
  covered : (b : ℕ) → contains nat_eq l.covered b ≡ list_any (λ c. covers l.above c b) l.found.items;
}
