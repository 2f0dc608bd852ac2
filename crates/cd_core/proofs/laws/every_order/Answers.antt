use Rattle.cd_core.proofs.Orders.{every_order}
use Rattle.cd_core.proofs.laws.every_order.Goals as goal

pub returns : goal.returns
returns g c = every_order g.A.Actor.meaning
