use Rattle.cd_gen.specs.Generated.{level_classes, generated_classes}
use Rattle.cd_gen.proofs.Levels.{levels_next}
use Rattle.cd_gen.proofs.names.classes.Goals as goal

pub loop-level-preserved : goal.loop-level-preserved
loop-level-preserved c =
    levels_next level_classes c.loop-level.level (generated_classes 0) c.loop-level.found.items c.push_level.new.found.items
    c.loop-level.invariant c.in_ok-push_level.ensures
