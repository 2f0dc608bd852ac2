use Rattle.std.proofs.Common.{◌<◌, List, rules, sym, subst}
use Rattle.cd_actor.specs.Cells.{AreAllLawful}
use Rattle.cd_actor.specs.Settled.{IsSettled}
use Rattle.cd_cell.specs.Cells.{CellState, meaning}
use Rattle.cd_saturation.specs.Decided.{AreExactCells}
use Rattle.cd_saturation.specs.Groups.{key_of, starts_of}
use Rattle.cd_saturation.specs.Saturation.{HasBegun}
use Rattle.cd_saturation.specs.declared.group.Group.{Group}
use Rattle.cd_saturation.proofs.Runs.{groups_begun, open_lawful, run_on}
use Rattle.cd_saturation.proofs.rounds.decide_rounds.Goals as goal

pub run_groups-requires-clause-start : goal.run_groups-requires-clause-start
run_groups-requires-clause-start c =
    let some : 0 < c.args.limits.now.cells = search rules in
    subst (λ (z : List Group). AreAllLawful meaning c.rounds.cells.items (starts_of c.args.limits.now.cells z)) (sym c.deref.ensures.value)
    (open_lawful c.args.index.now.normal c.args.limits.now.cells c.args.classes c.rounds.cells.items c.rounds.invariant.run some c.requires.named c.rounds.above.items c.rounds.groups.items c.rounds.invariant.decided)

pub decide_groups-requires-clause-begun : goal.decide_groups-requires-clause-begun
decide_groups-requires-clause-begun c =
    let settled = subst (λ (z : List Group). IsSettled meaning c.rounds.cells.items (starts_of c.args.limits.now.cells z) c.run_groups.new.cells.items) c.deref.ensures.value c.in_ok-run_groups.ensures.settled in
    λ g m. subst (λ (z : List CellState). HasBegun c.args.limits.now.cells z (key_of g.class g.names)) (sym c.deref-in-rounds.ensures.value)
    (groups_begun c.args.limits.now.cells c.rounds.cells.items c.rounds.groups.items c.run_groups.new.cells.items settled g m)

pub rounds-preserved : goal.rounds-preserved
rounds-preserved c =
    let n = c.args.index.now.normal in
    let run = run_on n c.args.limits.now.cells c.args.classes c.rounds.cells.items c.rounds.invariant.run _ c.run_groups.new.cells.items c.in_ok-run_groups.ensures.settled in
    let exact : AreExactCells n c.run_groups.new.cells.items = record { closure = c.requires.closure; roles = c.requires.roles; settled = run.settled } in
    record {
      run = run;
      decided = c.in_ok-decide_groups.ensures.decides n c.args.classes (subst (λ (z : List CellState). AreExactCells n z) (sym c.deref-in-rounds.ensures.value) exact) c.rounds.invariant.decided;
    }
