use Rattle.std.proofs.Common.{rules, refl}
use Rattle.cd_normal.proofs.Adding.{added_n2}
use Rattle.cd_normal.proofs.maker.Maker.add_existential.Goals as goal

pub returns-clause-adds : goal.returns-clause-adds
returns-clause-adds c = added_n2 c.args.self.now (record c.args.self.now { n2 = c.push.new.self }) (record { atom = c.args.atom; role = c.args.role; other = c.args.other }) (search rules) refl refl refl refl
