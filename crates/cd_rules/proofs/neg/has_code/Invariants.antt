use Rattle.std.proofs.Common.{◌≡◌, ◌==◌, map, length}
use Rattle.std.specs.List.{list_any}
use Rattle.cd_base.specs.Keys.{code}
use Rattle.cd_rules.proofs.neg.has_code.Given as goal

abbrev pub invariant-lits : goal.invariant-lits
invariant-lits l = list_any (λ k. k == l.number) (map code l.lits) ≡ list_any (λ k. k == l.number) (map code l.rest)

abbrev pub decreases-lits : goal.decreases-lits
decreases-lits l = length l.rest
