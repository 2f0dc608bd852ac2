use Rattle.cd_taxonomy.proofs.LinesOfGroups.{parents_more}
use Rattle.cd_taxonomy.proofs.printing.push_parents.Goals as goal

pub loop-parent-preserved : goal.loop-parent-preserved
loop-parent-preserved c =
    parents_more c.args.names.now c.args.groups.now c.args.class c.args.parents.now c.loop-parent.parent-index c.head-above.result c.index-groups-parent.result _ _ _
    c.loop-parent-test.true (c.requires.parents c.loop-parent.parent-index 0 c.loop-parent-test.true) c.index-groups-parent.is c.head-above.ensures.head c.loop-parent.invariant c.in_ok-push_line.ensures
