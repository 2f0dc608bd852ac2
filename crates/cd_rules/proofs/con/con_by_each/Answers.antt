use Rattle.std.proofs.Common.{◌≡◌, ◌<◌, true, length, get_or, refl, arith}
use Rattle.std.specs.Result.{IsOk}
use Rattle.std.proofs.lemmas.Grind.{common_steps}
use Rattle.cd_rules.proofs.ConNumbers.{number_goes, number_in, number_stops, numbers_end}
use Rattle.cd_rules.proofs.Pushed.{failed}
use Rattle.cd_rules.proofs.con.con_by_each.Goals as goal

pub bounds-axioms-numbers : goal.bounds-axioms-numbers
bounds-axioms-numbers c =
    number_in c.args.index.now.normal c.args.clauses.now c.args.partners.now c.args.numbers.now c.args.atom c.args.others.now c.requires.numbers c.numbers.i
    c.normal-normal.result.now c.items-axioms.result.now c.normal-normal.ensures c.items-axioms.ensures c.numbers-test.true

pub offset_bounds-axioms-numbers : goal.offset_bounds-axioms-numbers
offset_bounds-axioms-numbers c =
    let lt : get_or c.args.numbers.now c.numbers.i 0 < length c.items-axioms.result.now
    = number_in c.args.index.now.normal c.args.clauses.now c.args.partners.now c.args.numbers.now c.args.atom c.args.others.now c.requires.numbers c.numbers.i
    c.normal-normal.result.now c.items-axioms.result.now c.normal-normal.ensures c.items-axioms.ensures c.numbers-test.true in
    grind (arith, common_steps)

pub returns-in_err-con_by : goal.returns-in_err-con_by
returns-in_err-con_by c =
    number_stops c.args.index.now.normal c.args.clauses.now c.args.partners.now c.args.numbers.now c.args.atom c.args.others.now c.requires.numbers c.numbers.i
    c.normal-normal.result.now c.items-axioms.result.now c.index-axioms-numbers.result (IsOk c.con_by.result) c.args.out.now.items c.numbers.out.items c.con_by.new.out.items
    c.normal-normal.ensures c.items-axioms.ensures c.numbers-test.true c.index-axioms-numbers.is c.numbers.invariant c.con_by.ensures
    (IsOk c.from_residual.result) (failed c.from_residual.result c.from_residual.ensures.0)

pub numbers-preserved : goal.numbers-preserved
numbers-preserved c =
    number_goes c.args.index.now.normal c.args.clauses.now c.args.partners.now c.args.numbers.now c.args.atom c.args.others.now c.requires.numbers c.numbers.i
    c.normal-normal.result.now c.items-axioms.result.now c.index-axioms-numbers.result (true ≡ true) c.args.out.now.items c.numbers.out.items c.con_by.new.out.items
    c.normal-normal.ensures c.items-axioms.ensures c.numbers-test.true c.index-axioms-numbers.is c.numbers.invariant c.in_ok-con_by.ensures refl

pub returns : goal.returns
returns c =
    numbers_end c.args.index.now.normal c.args.clauses.now c.args.partners.now c.args.numbers.now c.args.atom c.args.others.now c.requires.numbers c.numbers.i
    (true ≡ true) c.args.out.now.items c.numbers.out.items c.numbers.invariant (omega (arith, c.numbers-test.false))
