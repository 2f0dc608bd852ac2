use Rattle.std.proofs.Common.{rules}
use Rattle.cd_normal.proofs.Giving.{given_union}
use Rattle.cd_normal.proofs.Sizes.{class_below}
use Rattle.cd_normal.proofs.axioms.disjoint_union.Goals as goal

pub returns-clause-given : goal.returns-clause-given
returns-clause-given c = given_union c.args.classes c.args.maker.now c.used_each.new.maker c.used_each-2.new.maker c.apart.new.maker c.imply_each.new.self c.add_implication.new.self c.args.class c.args.operands.now c.in_ok-xs.xs.items c.in_ok-ys.ys.items
    (class_below c.args.classes c.args.class c.args.operands.now c.requires.within) c.in_ok-xs.ensures.is_use c.in_ok-ys.ensures.is_use c.in_ok-apart.ensures.given
    c.imply_each.ensures.next (search (rules, c.in_ok-imply_each.ensures.adds)) c.add_implication.ensures.next (search (rules, c.in_ok-add_implication.ensures.adds))
