use Rattle.std.proofs.Common.{ℕ, ◌⊎◌, length, map}
use Rattle.cd_base.specs.Keys.{code}
use Rattle.cd_base.specs.Lists.{OneOf}
use Rattle.cd_store.specs.Filing.{listed, with_literal, KeepsFiled}
use Rattle.cd_store.proofs.filing.Filing.file_literals.Given as goal

abbrev pub invariant-lits : goal.invariant-lits
invariant-lits l = record {
  kept : KeepsFiled l.fn.self l.self;
  filed : (q : ℕ) → OneOf q l.key → OneOf q (map code l.rest) ⊎ OneOf l.number (listed l.self (with_literal l.role q));
}

abbrev pub decreases-lits : goal.decreases-lits
decreases-lits l = length l.rest
