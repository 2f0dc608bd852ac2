use Rattle.std.proofs.Common.{◌<◌, inr, rules}
use Rattle.std.proofs.lemmas.Result.{IfOk-weaker, IfErr-weaker}
use Rattle.cd_saturation.proofs.Runs.{classes_lawful, new_cells, of_family, run_after}
use Rattle.cd_saturation.proofs.saturation.saturate.Goals as goal

pub run_on-requires-clause-cells : goal.run_on-requires-clause-cells
run_on-requires-clause-cells c = new_cells c.args.index.now.normal c.args.limits.now.cells c.in_ok-cells.cells.items c.in_ok-cells.ensures

pub run_on-requires-clause-start : goal.run_on-requires-clause-start
run_on-requires-clause-start c =
    let some : 0 < c.args.limits.now.cells = search rules in
    classes_lawful c.args.index.now.normal c.args.limits.now.cells c.in_ok-cells.cells.items (of_family c.args.index.now.normal c.args.limits.now.cells c.in_ok-cells.cells.items c.in_ok-cells.ensures) c.in_ok-cells.ensures.each some
    c.args.classes c.in_ok-start.start.items c.in_ok-start.ensures c.requires.named

pub returns-clause-run : goal.returns-clause-run
returns-clause-run c =
    IfOk-weaker c.run_on.result _ _
    (λ cells e. run_after c.args.index.now.normal c.args.limits.now.cells c.in_ok-cells.cells.items (of_family c.args.index.now.normal c.args.limits.now.cells c.in_ok-cells.cells.items c.in_ok-cells.ensures)
    c.args.classes c.in_ok-start.start.items cells.items e (λ a lt. inr (c.in_ok-start.ensures.every a lt)))
    c.run_on.ensures.settled

pub returns-clause-halted : goal.returns-clause-halted
returns-clause-halted c =
    IfErr-weaker c.run_on.result _ _
    (λ halt h. h c.args.limits.now.cells c.args.index.now.normal (of_family c.args.index.now.normal c.args.limits.now.cells c.in_ok-cells.cells.items c.in_ok-cells.ensures))
    c.run_on.ensures.halted
