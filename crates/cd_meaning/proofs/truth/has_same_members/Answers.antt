use Rattle.cd_meaning.proofs.truth.has_same_members.Goals as goal

pub returns-then-is_below : goal.returns-then-is_below
returns-then-is_below c =
    (λ back. (c.is_below.ensures.0 c.if-is_below.true, c.is_below-then-is_below.ensures.0 back), λ same. c.is_below-then-is_below.ensures.1 same.1)
