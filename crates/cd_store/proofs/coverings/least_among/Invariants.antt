use Rattle.std.proofs.Common.{ℕ, ◌⊎◌, length}
use Rattle.cd_base.specs.Lists.{OneOf}
use Rattle.cd_store.specs.Coverings.{HoldsCovering, IsAtMost, IsCovering}
use Rattle.cd_store.proofs.coverings.least_among.Given as goal

abbrev pub invariant-numbers : goal.invariant-numbers
invariant-numbers l = record {
  holds : HoldsCovering l.clauses l.live l.clause l.least;
  lower : (n : ℕ) → IsAtMost l.fn.found n → IsAtMost l.least n;
  covers : (n : ℕ) → OneOf n l.numbers → OneOf n l.rest ⊎ (IsCovering l.clauses l.live l.clause n → IsAtMost l.least n);
}

abbrev pub decreases-numbers : goal.decreases-numbers
decreases-numbers l = length l.rest
