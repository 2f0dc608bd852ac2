use Rattle.std.proofs.Common.{ℕ, ◌⊎◌}
use Rattle.cd_base.specs.Lists.{OneOf}
use Rattle.cd_store.specs.Sift.{IsCovered}
use Rattle.cd_store.proofs.Gaining.{HasGained}
use Rattle.cd_store.proofs.Helpers.{IsCoveredAt}
use Rattle.cd_store.proofs.store.push_covered.Given as goal

abbrev pub invariant-numbers : goal.invariant-numbers
invariant-numbers l = record {
  every : HasGained (IsCoveredAt l.fn.numbers l.clauses l.live l.clause) l.i l.fn.found.items l.found.items;
  only : (n : ℕ) → OneOf n l.found.items → OneOf n l.fn.found.items ⊎ IsCovered l.clauses l.live l.clause n;
}
