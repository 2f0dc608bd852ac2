use Rattle.cd_sample.proofs.WorkedDerivations.{sure_justified}
use Rattle.cd_sample.proofs.context_tests.tell_sure.Goals as goal

pub absorb-requires-clause-justified : goal.absorb-requires-clause-justified
absorb-requires-clause-justified g c = sure_justified c.args.index.now.normal c.requires.edge c.args.context.now.key c.four.result c.requires.key c.four.ensures c.requires.context.reachable
