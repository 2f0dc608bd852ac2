use Rattle.std.proofs.Common.{ℕ, length, map}
use Rattle.cd_base.specs.Keys.{code}
use Rattle.cd_base.specs.Lists.{OneOf, Within}
use Rattle.cd_store.specs.Filing.{listed, with_literal}
use Rattle.cd_store.proofs.filing.Filing.shortest.Given as goal

abbrev pub invariant-lits : goal.invariant-lits
invariant-lits l = record {
  fewer : Within (map code l.rest) (map code l.lits);
  has : (n : ℕ) → OneOf n l.list → ((q : ℕ) → OneOf q (map code l.lits) → OneOf n (listed l.self (with_literal l.role q))) → OneOf n l.least;
}

abbrev pub decreases-lits : goal.decreases-lits
decreases-lits l = length l.rest
