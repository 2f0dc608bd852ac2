use Rattle.std.proofs.Common.{◌≡◌, ◌⊎◌, ℕ, true, length}
use Rattle.cd_base.specs.Lists.{OneOf}
use Rattle.cd_clause.specs.declared.elem.Elem.{Elem}
use Rattle.cd_store.specs.Filing.{IsUnderLast}
use Rattle.cd_clause.specs.Covering.{is_as_strong}
use Rattle.cd_store.specs.Coverings.{HoldsCovering, IsAtMost, IsCovering}
use Rattle.cd_store.proofs.coverings.least_by_elems.Given as goal

abbrev pub invariant-elems : goal.invariant-elems
invariant-elems l = record {
  holds : HoldsCovering l.clauses l.live l.clause l.least;
  lower : (n : ℕ) → IsAtMost l.fn.found n → IsAtMost l.least n;
  covers : (f : Elem) → OneOf f l.clause → OneOf f l.rest ⊎ ((e : Elem) (n : ℕ) → is_as_strong e f ≡ true → IsUnderLast l.filing n e → IsCovering l.clauses l.live l.clause n → IsAtMost l.least n);
}

abbrev pub decreases-elems : goal.decreases-elems
decreases-elems l = length l.rest
