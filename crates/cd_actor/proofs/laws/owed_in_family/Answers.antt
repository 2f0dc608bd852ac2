use Rattle.cd_actor.proofs.Family.{owed_in_family}
use Rattle.cd_actor.proofs.laws.owed_in_family.Goals as goal

pub returns : goal.returns
returns g c = owed_in_family g.A.Actor.meaning g.met.A.Actor.same_lawful g.met.A.Actor.lawful_below g.met.A.Actor.owed_lawful
