use Rattle.std.proofs.Common.{◌≡◌, true, refl}
use Rattle.std.specs.Result.{IsOk}
use Rattle.cd_base.specs.declared.normal.Triple.{Triple}
use Rattle.cd_rules.specs.Parts.{IsExBy}
use Rattle.cd_rules.specs.Steps.{IsEx}
use Rattle.cd_rules.proofs.Pushed.{failed}
use Rattle.cd_base.proofs.Appending.{walk_ends_as, walk_goes, walk_stops_as}
use Rattle.cd_rules.proofs.Among.{among_grows}
use Rattle.cd_rules.proofs.ex.ex.Goals as goal

pub returns-in_err-push_edge : goal.returns-in_err-push_edge
returns-in_err-push_edge c =
    walk_stops_as among_grows (λ (t : Triple). IsExBy t c.args.others.now) (IsEx c.args.index.now.normal c.args.atom c.args.others.now) c.gives-rest.result.now c.axioms.rest.now c.edge-item.result
    (IsOk c.push_edge.result) (IsOk c.from_residual.result) c.args.out.now.items c.axioms.out.items c.push_edge.new.out.items
    c.axioms.invariant c.in-len1-up.len_at_least c.edge-item.is c.push_edge.ensures (failed c.from_residual.result c.from_residual.ensures.0)
    (λ d q. let at = (c.gives-rest.ensures q.0).0 q.1 in (q.0, at.0, at.1, q.2))

pub axioms-preserved : goal.axioms-preserved
axioms-preserved c =
    walk_goes among_grows (λ (t : Triple). IsExBy t c.args.others.now) c.gives-rest.result.now c.axioms.rest.now _ c.edge-item.result (true ≡ true) c.args.out.now.items c.axioms.out.items c.push_edge.new.out.items
    c.axioms.invariant refl c.in-len1-up.len_at_least c.edge-item.is c.in_ok-push_edge.ensures refl

pub returns : goal.returns
returns c =
    walk_ends_as (λ (t : Triple). IsExBy t c.args.others.now) (IsEx c.args.index.now.normal c.args.atom c.args.others.now) c.gives-rest.result.now c.axioms.rest.now
    (true ≡ true) c.args.out.now.items c.axioms.out.items c.axioms.invariant c.in_default.len_below
    (λ d q. let at = (c.gives-rest.ensures q.0).0 q.1 in (q.0, at.0, at.1, q.2))
    (λ d p. (p.0, (c.gives-rest.ensures p.0).1 (p.1, p.2), p.3))
