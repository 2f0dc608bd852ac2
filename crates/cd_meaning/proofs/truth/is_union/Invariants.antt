use Rattle.std.proofs.Common.{◌≡◌, ℕ, ◌<◌}
use Rattle.std.specs.List.{list_any}
use Rattle.cd_meaning.specs.Membership.{class_has, member}
use Rattle.cd_meaning.proofs.truth.is_union.Given as goal

abbrev pub invariant-loop-element : goal.invariant-loop-element
invariant-loop-element l = (x : ℕ) → x < l.element → class_has l.i l.class x ≡ list_any (λ part. member l.i part x) l.operands
