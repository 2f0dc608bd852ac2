use Rattle.cd_normal.proofs.Giving.{given_sub}
use Rattle.cd_normal.proofs.axioms.sub_class.Goals as goal

pub returns-clause-given : goal.returns-clause-given
returns-clause-given c = given_sub c.args.classes c.args.maker.now c.used.new.maker c.used-2.new.maker c.link.new.self c.args.lower.now c.args.higher.now c.in_ok-x.x c.in_ok-y.y c.in_ok-x.ensures.is_use c.in_ok-y.ensures.is_use c.link.ensures.next c.in_ok-link.ensures.adds
