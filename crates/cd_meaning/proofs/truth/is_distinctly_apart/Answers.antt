use Rattle.cd_meaning.proofs.Decided.{not_from_false}
use Rattle.cd_meaning.proofs.truth.is_distinctly_apart.Goals as goal

pub returns-else-same_tree : goal.returns-else-same_tree
returns-else-same_tree c =
    (λ apart differ. c.are_disjoint.ensures.0 apart, λ all. c.are_disjoint.ensures.1 (all (not_from_false c.same_tree.result c.same_tree.ensures.1 c.if-same_tree.false)))
