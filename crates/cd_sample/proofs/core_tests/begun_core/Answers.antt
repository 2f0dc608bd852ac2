use Rattle.std.proofs.Common.{subst}
use Rattle.std.specs.Prelude.{IfOk}
use Rattle.cd_cell.specs.Cells.{meaning}
use Rattle.cd_core.specs.Begin.{IsBegun}
use Rattle.cd_sample.proofs.CoreRuns.{one_lawful, way_begun}
use Rattle.cd_saturation.proofs.Runs.{new_cells}
use Rattle.cd_sample.proofs.core_tests.begun_core.Goals as goal

pub resume-requires-clause-cells : goal.resume-requires-clause-cells
resume-requires-clause-cells g c = new_cells c.args.index.now.normal 1 c.new_cells-cells.result.items c.new_cells-cells.ensures

pub resume-requires-clause-start : goal.resume-requires-clause-start
resume-requires-clause-start g c = one_lawful c.args.index.now.normal 2 c.requires c.new_cells-cells.result.items c.new_cells-cells.ensures c.start_messages-start.result.items c.start_messages-start.ensures

pub returns : goal.returns
returns g c =
    way_begun c.args.index.now.normal 2 c.requires c.new_cells-cells.result.items c.new_cells-cells.ensures c.start_messages-start.result.items c.start_messages-start.ensures c.expect.result
    (subst (λ r. IfOk r (λ core. IsBegun meaning c.new_cells-cells.result.items c.start_messages-start.result.items core)) c.expect.ensures c.resume.ensures.begun)
