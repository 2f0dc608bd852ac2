use Rattle.std.proofs.Common.{[], ◌∷◌, List, sym, subst}
use Rattle.cd_base.specs.Keys.{plain}
use Rattle.cd_cell.specs.Cells.{CellState}
use Rattle.cd_saturation.specs.Saturation.{HasBegun}
use Rattle.cd_saturation.proofs.subsumers.decide_all.Goals as goal

pub read_classes-requires-clause-begun : goal.read_classes-requires-clause-begun
read_classes-requires-clause-begun c = λ a lt.
    subst (λ (z : List CellState). HasBegun c.args.limits.now.cells z (plain a ∷ [])) (sym c.deref.ensures.value) (c.requires.run.begun a lt)
