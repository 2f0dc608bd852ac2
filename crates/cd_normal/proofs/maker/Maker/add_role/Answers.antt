use Rattle.std.proofs.Common.{rules, refl}
use Rattle.cd_normal.proofs.Adding.{added_n5}
use Rattle.cd_normal.proofs.maker.Maker.add_role.Goals as goal

pub returns-clause-adds : goal.returns-clause-adds
returns-clause-adds c = added_n5 c.args.self.now (record c.args.self.now { n5 = c.push.new.self }) (record { lower = c.args.lower; higher = c.args.higher }) (search rules) refl refl refl refl
