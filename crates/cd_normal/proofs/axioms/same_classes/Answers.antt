use Rattle.std.proofs.Common.{rules, sym, ◌∙◌}
use Rattle.cd_normal.proofs.Giving.{given_same}
use Rattle.cd_normal.proofs.axioms.same_classes.Goals as goal

pub returns-clause-given : goal.returns-clause-given
returns-clause-given c = given_same c.args.classes c.args.maker.now c.used_each.new.maker c.used_each-2.new.maker c.imply_round.new.self c.args.operands.now c.in_ok-xs.xs.items c.in_ok-ys.ys.items c.in_ok-xs.ensures.is_use c.in_ok-ys.ensures.is_use
    (c.in_ok-xs.ensures.same_length ∙ sym c.in_ok-ys.ensures.same_length) c.imply_round.ensures.next (search (rules, c.in_ok-imply_round.ensures.adds))
