use Rattle.std.proofs.Common.{◌∷◌, map, length}
use Rattle.cd_base.specs.Keys.{code}
use Rattle.cd_base.specs.Lists.{OneOf, Within}
use Rattle.cd_store.proofs.filing.Filing.rarest.Given as goal

abbrev pub invariant-lits : goal.invariant-lits
invariant-lits l = record {
  fewer : Within (map code l.rest) (map code l.others);
  isin : OneOf (code l.rarest) (code l.fn.first ∷ map code l.others);
}

abbrev pub decreases-lits : goal.decreases-lits
decreases-lits l = length l.rest
