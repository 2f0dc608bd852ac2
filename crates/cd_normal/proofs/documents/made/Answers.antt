use Rattle.std.proofs.Common.{rules, refl}
use Rattle.cd_normal.proofs.Whole.{empty_has, made_of}
use Rattle.cd_normal.specs.declared.maker.Maker.{Maker}
use Rattle.cd_normal.proofs.documents.made.Goals as goal

pub returns-clause-made : goal.returns-clause-made
returns-clause-made c =
    let start : Maker = record { next = c.args.classes; n1 = c.new.result; n2 = c.new-2.result; n3 = c.new-3.result; n4 = c.new-4.result; n5 = c.new-5.result } in
    made_of c.args.classes c.args.axioms.now start c.all_give.new.maker c.add_implication.new.self c.add_implication-2.new.self refl
    (empty_has start c.new.ensures.items c.new-2.ensures.items c.new-3.ensures.items c.new-4.ensures.items c.new-5.ensures.items)
    c.in_ok-all_give.ensures.given c.add_implication.ensures.next (search (rules, c.in_ok-add_implication.ensures.adds)) c.add_implication-2.ensures.next (search (rules, c.in_ok-add_implication-2.ensures.adds))
