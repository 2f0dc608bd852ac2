use Rattle.std.proofs.Common.{◌∙◌, sym}
use Rattle.cd_clause.proofs.Eligibles.{best_changes, best_stays, best_ends}
use Rattle.cd_clause.proofs.eligibility.greatest.Goals as goal
use Rattle.cd_clause.proofs.eligibility.greatest.Goals.{then-is_at_most, else-is_at_most}

pub places-preserved : goal.places-preserved
places-preserved c = elim c.if-is_at_most.branch [
  | then-is_at_most w ↦ rw w.best-is
      (best_changes c.args.normal.now c.args.clause.now c.elems-elems.result.now c.places.best c.places.i c.index-elems-i.result c.index-elems-best.result
      c.elems-elems.ensures.elems c.places.invariant c.places-test.true c.index-elems-best.is c.index-elems-i.is (sym c.is_at_most.ensures ∙ w.if-is_at_most.true))
  | else-is_at_most w ↦ rw w.best-is
      (best_stays c.args.normal.now c.args.clause.now c.elems-elems.result.now c.places.best c.places.i c.index-elems-i.result c.index-elems-best.result
      c.elems-elems.ensures.elems c.places.invariant c.places-test.true c.index-elems-best.is c.index-elems-i.is (sym c.is_at_most.ensures ∙ w.if-is_at_most.false))
]

pub returns : goal.returns
returns c = best_ends c.args.normal.now c.args.clause.now c.elems-elems.result.now c.places.best c.places.i c.elems-elems.ensures.elems c.places.invariant c.places-test.false
