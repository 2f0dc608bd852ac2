use Rattle.std.proofs.Common.{refl, arith}
use Rattle.std.proofs.lemmas.Grind.{common_steps}
use Rattle.cd_rules.specs.Walks.{IsAllWithAtom}
use Rattle.cd_rules.proofs.Alls.{to_all_of_exist, of_all_of_exist}
use Rattle.cd_rules.proofs.EachNumber.{in_range, goes_on_with, stops_with, ends_with}
use Rattle.cd_rules.proofs.Pushed.{failed}
use Rattle.cd_rules.proofs.all.all_of_exist.Goals as goal

pub offset_bounds-clauses-number : goal.offset_bounds-clauses-number
offset_bounds-clauses-number c =
    let h = in_range (IsAllWithAtom c.args.index.now.normal c.args.role c.args.key.now c.args.others.now) c.args.clauses.now c.args.choices.now c.loop-number.number-index c.loop-number-test.true c.requires.choices in
    grind (arith, common_steps)

pub bounds-clauses-number : goal.bounds-clauses-number
bounds-clauses-number c = in_range (IsAllWithAtom c.args.index.now.normal c.args.role c.args.key.now c.args.others.now) c.args.clauses.now c.args.choices.now c.loop-number.number-index c.loop-number-test.true c.requires.choices

pub returns-in_err-all_with_atom : goal.returns-in_err-all_with_atom
returns-in_err-all_with_atom c = stops_with (IsAllWithAtom c.args.index.now.normal c.args.role c.args.key.now c.args.others.now) c.args.clauses.now c.args.choices.now c.loop-number.number-index c.loop-number-test.true c.requires.choices
    c.index-clauses-number.result c.index-clauses-number.is _ c.loop-number.invariant c.in_err-all_with_atom.ensures (failed c.from_residual.result c.from_residual.ensures.0)
    (to_all_of_exist c.args.index.now.normal c.args.role c.args.key.now c.args.others.now c.args.clauses.now c.args.choices.now)

pub loop-number-preserved : goal.loop-number-preserved
loop-number-preserved c = goes_on_with (IsAllWithAtom c.args.index.now.normal c.args.role c.args.key.now c.args.others.now) c.args.clauses.now c.args.choices.now c.loop-number.number-index c.loop-number-test.true c.requires.choices
    c.index-clauses-number.result c.index-clauses-number.is c.loop-number.invariant c.in_ok-all_with_atom.ensures refl

pub returns : goal.returns
returns c = ends_with (IsAllWithAtom c.args.index.now.normal c.args.role c.args.key.now c.args.others.now) c.args.clauses.now c.args.choices.now
    _ c.loop-number.number-index c.loop-number-test.false c.loop-number.invariant
    (to_all_of_exist c.args.index.now.normal c.args.role c.args.key.now c.args.others.now c.args.clauses.now c.args.choices.now)
    (of_all_of_exist c.args.index.now.normal c.args.role c.args.key.now c.args.others.now c.args.clauses.now c.args.choices.now)
