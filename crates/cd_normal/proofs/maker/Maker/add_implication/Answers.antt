use Rattle.std.proofs.Common.{rules, refl}
use Rattle.cd_normal.proofs.Adding.{added_n1}
use Rattle.cd_normal.proofs.maker.Maker.add_implication.Goals as goal

pub returns-clause-adds : goal.returns-clause-adds
returns-clause-adds c = added_n1 c.args.self.now (record c.args.self.now { n1 = c.push.new.self }) (record { left = c.args.left.items; right = c.args.right.items }) (search rules) refl refl refl refl
