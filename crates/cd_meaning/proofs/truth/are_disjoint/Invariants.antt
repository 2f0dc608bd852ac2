use Rattle.std.proofs.Common.{ℕ, ◌<◌, IsTrue}
use Rattle.cd_meaning.specs.Membership.{member}
use Rattle.cd_meaning.proofs.truth.are_disjoint.Given as goal

abbrev pub invariant-loop-element : goal.invariant-loop-element
invariant-loop-element l = (x : ℕ) → x < l.element → IsTrue (member l.i l.first x) → IsTrue (member l.i l.second x) → ⊥
