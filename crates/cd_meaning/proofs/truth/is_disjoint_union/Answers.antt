use Rattle.std.proofs.lemmas.Bool.{both_ways}
use Rattle.cd_meaning.proofs.truth.is_disjoint_union.Goals as goal

pub returns-then-is_union : goal.returns-then-is_union
returns-then-is_union c = (λ t. (c.is_union.ensures.0 c.if-is_union.true, c.are_pairwise_disjoint.ensures.0 t), λ p. c.are_pairwise_disjoint.ensures.1 p.1)

pub returns-else-is_union : goal.returns-else-is_union
returns-else-is_union c = (λ t. absurd (both_ways c.is_union.result c.if-is_union.false t), λ p. c.is_union.ensures.1 p.0)
