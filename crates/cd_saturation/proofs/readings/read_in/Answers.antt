use Rattle.std.proofs.Common.{◌<◌, length, sym, subst}
use Rattle.std.proofs.lemmas.Result.{IfOk-weaker}
use Rattle.cd_base.specs.Keys.{plain}
use Rattle.cd_actor.proofs.At.{at_below, at_index}
use Rattle.cd_saturation.proofs.Reading.{context_here, reading_true}
use Rattle.cd_saturation.proofs.readings.read_in.Goals as goal
use Rattle.std.proofs.Common.{[], ◌∷◌}

pub bounds-cells-place : goal.bounds-cells-place
bounds-cells-place c = subst (λ p. p < length c.args.cells.now) (sym c.cell_of-place.ensures) (at_below _ _ _ c.requires.begun.1)

pub read-requires : goal.read-requires
read-requires c =
    let lt = subst (λ p. p < length c.args.cells.now) (sym c.cell_of-place.ensures) (at_below _ _ _ c.requires.begun.1) in
    record {
      here = context_here c.args.count (plain c.args.class ∷ []) c.args.cells.now c.cell_of-place.result c.cell_of-place.ensures c.index-cells-place.result (at_index c.args.cells.now c.cell_of-place.result c.index-cells-place.result lt c.index-cells-place.is) c.requires.begun;
    }

pub returns : goal.returns
returns c =
    let lt = subst (λ p. p < length c.args.cells.now) (sym c.cell_of-place.ensures) (at_below _ _ _ c.requires.begun.1) in
    let at = at_index c.args.cells.now c.cell_of-place.result c.index-cells-place.result lt c.index-cells-place.is in
    IfOk-weaker c.read.result _ _ (λ reading h n e. reading_true c.args.cells.now c.cell_of-place.result c.index-cells-place.result at n e c.args.class reading h) c.read.ensures.exact
