use Rattle.std.proofs.Common.{ℕ, List, length}
use Rattle.cd_store.specs.Filing.{IsFiled, KeepsFiled}
use Rattle.cd_store.proofs.filing.Filing.file.Given as goal

abbrev pub invariant-elems : goal.invariant-elems
invariant-elems l = record {
  kept : KeepsFiled l.fn.self l.self;
  filed : (f : List (ℕ × List ℕ)) → KeepsFiled l.self f → IsFiled f l.number l.rest → IsFiled f l.number l.clause;
}

abbrev pub decreases-elems : goal.decreases-elems
decreases-elems l = length l.rest
