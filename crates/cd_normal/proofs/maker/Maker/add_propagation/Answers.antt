use Rattle.std.proofs.Common.{rules, refl}
use Rattle.cd_normal.proofs.Adding.{added_n3}
use Rattle.cd_normal.proofs.maker.Maker.add_propagation.Goals as goal

pub returns-clause-adds : goal.returns-clause-adds
returns-clause-adds c = added_n3 c.args.self.now (record c.args.self.now { n3 = c.push.new.self }) (record { atom = c.args.atom; role = c.args.role; other = c.args.other }) (search rules) refl refl refl refl
