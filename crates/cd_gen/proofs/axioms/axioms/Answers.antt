use Rattle.std.proofs.Common.{◌++◌, ap, ◌∙◌, append_assoc, List}
use Rattle.cd_meaning.specs.declared.expression.Axiom.{Axiom}
use Rattle.cd_gen.specs.Generated.{class_axioms, edge_axioms, level_axioms, generated_axioms}
use Rattle.cd_gen.proofs.Levels.{levels_next}
use Rattle.cd_gen.proofs.axioms.axioms.Goals as goal

pub loop-level-preserved : goal.loop-level-preserved
loop-level-preserved c =
    levels_next level_axioms c.loop-level.level (generated_axioms 0) c.loop-level.found.items c.push_edge.new.found.items
    c.loop-level.invariant
    (c.in_ok-push_edge.ensures ∙ ap (λ (l : List Axiom). l ++ edge_axioms c.loop-level.level) c.in_ok-push_classes.ensures
    ∙ append_assoc c.loop-level.found.items (class_axioms c.loop-level.level) (edge_axioms c.loop-level.level))
