use Rattle.std.proofs.Common.{◌≡◌, true}
use Rattle.std.specs.Option.{MatchOption}
use Rattle.cd_index.specs.Index.{has}
use Rattle.cd_index.proofs.by_atom.rarest.Given as goal

abbrev pub invariant-loop-atom : goal.invariant-loop-atom
invariant-loop-atom l = MatchOption l.best (l.atom-index ≡ 0) (λ a. has a l.atoms ≡ true)
