use Rattle.std.proofs.Common.{refl, arith}
use Rattle.std.proofs.lemmas.Grind.{common_steps}
use Rattle.cd_rules.specs.Walks.{IsAllWithExist}
use Rattle.cd_rules.proofs.Alls.{to_all_of_atom, of_all_of_atom, none_of_atom}
use Rattle.cd_rules.proofs.EachNumber.{in_range, goes_on_with, stops_with, ends_with}
use Rattle.cd_rules.proofs.Pushed.{unpushed, failed}
use Rattle.cd_rules.proofs.all.all_of_atom.Goals as goal

pub offset_bounds-clauses-number : goal.offset_bounds-clauses-number
offset_bounds-clauses-number c =
    let h = in_range (IsAllWithExist c.args.index.now.normal c.alls-triples.result.now c.args.others.now) c.args.clauses.now c.args.choices.now c.loop-number.number-index c.loop-number-test.true c.requires.choices in
    grind (arith, common_steps)

pub bounds-clauses-number : goal.bounds-clauses-number
bounds-clauses-number c = in_range (IsAllWithExist c.args.index.now.normal c.alls-triples.result.now c.args.others.now) c.args.clauses.now c.args.choices.now c.loop-number.number-index c.loop-number-test.true c.requires.choices

pub returns-then-is_empty : goal.returns-then-is_empty
returns-then-is_empty c = unpushed _ _ _ _ refl (λ h. none_of_atom c.args.index.now.normal c.args.atom c.alls-triples.result.now c.args.others.now c.args.clauses.now c.args.choices.now c.alls-triples.ensures (grind (arith, common_steps)))

pub returns-in_err-all_with_exist : goal.returns-in_err-all_with_exist
returns-in_err-all_with_exist c = stops_with (IsAllWithExist c.args.index.now.normal c.alls-triples.result.now c.args.others.now) c.args.clauses.now c.args.choices.now c.loop-number.number-index c.loop-number-test.true c.requires.choices
    c.index-clauses-number.result c.index-clauses-number.is _ c.loop-number.invariant c.in_err-all_with_exist.ensures (failed c.from_residual.result c.from_residual.ensures.0)
    (to_all_of_atom c.args.index.now.normal c.args.atom c.alls-triples.result.now c.args.others.now c.args.clauses.now c.args.choices.now c.alls-triples.ensures)

pub loop-number-preserved : goal.loop-number-preserved
loop-number-preserved c = goes_on_with (IsAllWithExist c.args.index.now.normal c.alls-triples.result.now c.args.others.now) c.args.clauses.now c.args.choices.now c.loop-number.number-index c.loop-number-test.true c.requires.choices
    c.index-clauses-number.result c.index-clauses-number.is c.loop-number.invariant c.in_ok-all_with_exist.ensures refl

pub returns : goal.returns
returns c = ends_with (IsAllWithExist c.args.index.now.normal c.alls-triples.result.now c.args.others.now) c.args.clauses.now c.args.choices.now
    _ c.loop-number.number-index c.loop-number-test.false c.loop-number.invariant
    (to_all_of_atom c.args.index.now.normal c.args.atom c.alls-triples.result.now c.args.others.now c.args.clauses.now c.args.choices.now c.alls-triples.ensures)
    (of_all_of_atom c.args.index.now.normal c.args.atom c.alls-triples.result.now c.args.others.now c.args.clauses.now c.args.choices.now c.alls-triples.ensures)
