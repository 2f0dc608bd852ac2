use Rattle.std.proofs.Common.{inr, refl}
use Rattle.cd_meaning.specs.NormalAxioms.{n3, triple}
use Rattle.cd_normal.proofs.Giving.{given_one}
use Rattle.cd_normal.proofs.axioms.domain.Goals as goal

pub returns-clause-given : goal.returns-clause-given
returns-clause-given c k = given_one c.args.classes c.args.maker.now c.used.new.maker c.add_propagation.new.self c.args.class.now (λ x. n3 (triple 0 c.args.role x)) c.in_ok-x.x c.in_ok-x.ensures.is_use c.add_propagation.ensures.next c.in_ok-add_propagation.ensures.adds (inr refl)
