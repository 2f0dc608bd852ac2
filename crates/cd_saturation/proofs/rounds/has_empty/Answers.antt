use Rattle.std.proofs.Common.{◌<◌, length, sym, subst}
use Rattle.cd_actor.proofs.At.{at_below, at_index}
use Rattle.cd_saturation.proofs.Reading.{context_here, test_true}
use Rattle.cd_saturation.proofs.rounds.has_empty.Goals as goal

pub bounds-cells-place : goal.bounds-cells-place
bounds-cells-place c = subst (λ p. p < length c.args.cells.now) (sym c.place_of-place.ensures) (at_below _ _ _ c.requires.begun.1)

pub has_empty_at-requires : goal.has_empty_at-requires
has_empty_at-requires c =
    let lt = subst (λ p. p < length c.args.cells.now) (sym c.place_of-place.ensures) (at_below _ _ _ c.requires.begun.1) in
    record {
      here = context_here c.args.count c.args.key.now c.args.cells.now c.place_of-place.result c.place_of-place.ensures c.index-cells-place.result (at_index c.args.cells.now c.place_of-place.result c.index-cells-place.result lt c.index-cells-place.is) c.requires.begun;
    }

pub returns : goal.returns
returns c =
    let lt = subst (λ p. p < length c.args.cells.now) (sym c.place_of-place.ensures) (at_below _ _ _ c.requires.begun.1) in
    let at = at_index c.args.cells.now c.place_of-place.result c.index-cells-place.result lt c.index-cells-place.is in
    λ n e. test_true c.args.cells.now c.place_of-place.result c.index-cells-place.result at n e c.args.key.now c.has_empty_at.result c.has_empty_at.ensures.exact
