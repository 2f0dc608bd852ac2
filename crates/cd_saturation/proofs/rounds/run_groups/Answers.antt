use Rattle.std.proofs.Common.{◌≡◌, List, sym, subst}
use Rattle.cd_actor.specs.Cells.{AreAllLawful}
use Rattle.cd_cell.specs.Cells.{CellState, meaning}
use Rattle.cd_saturation.specs.Groups.{starts_of}
use Rattle.cd_saturation.proofs.rounds.run_groups.Goals as goal

pub run_on-requires-clause-start : goal.run_on-requires-clause-start
run_on-requires-clause-start c =
    let same : c.replace-held.result.items ≡ c.args.cells.now.items = cc in
    subst (λ s. AreAllLawful meaning c.replace-held.result.items s) (sym c.in_ok-start.ensures)
    (subst (λ (z : List CellState). AreAllLawful meaning z (starts_of c.args.limits.now.cells c.args.groups.now)) (sym same) c.requires.start)
