use Rattle.std.proofs.Common.{ℕ, ◌⊎◌}
use Rattle.cd_base.specs.Lists.{OneOf}
use Rattle.cd_store.specs.Sift.{IsCovered}
use Rattle.cd_store.proofs.Gaining.{HasGained}
use Rattle.cd_store.proofs.Helpers.{ChosenAt}
use Rattle.cd_store.proofs.store.push_smaller.Given as goal

abbrev pub invariant-lits : goal.invariant-lits
invariant-lits l = record {
  every : HasGained (ChosenAt l.filing l.role l.fn.lits (IsCovered l.clauses l.live l.clause)) l.i l.fn.found.items l.found.items;
  only : (n : ℕ) → OneOf n l.found.items → OneOf n l.fn.found.items ⊎ IsCovered l.clauses l.live l.clause n;
}
