use Rattle.std.proofs.Common.{inl, inr}
use Rattle.std.proofs.lemmas.Bool.{both_ways}
use Rattle.cd_context.proofs.beside.may_stand.Goals as goal

pub returns-else-may_have_one : goal.returns-else-may_have_one
returns-else-may_have_one c = λ h. elim (c.with_atom.ensures h.0 h.2) [
  | inl m ↦ absurd (both_ways c.may_have_one.result c.if-may_have_one.false (c.may_have_one.ensures h.0 m h.1))
  | inr m ↦ c.may_have_one-else-may_have_one.ensures h.0 m h.1
]
