use Rattle.cd_sample.proofs.WorkedDerivations.{back_justified}
use Rattle.cd_sample.proofs.context_tests.tell_back.Goals as goal

pub absorb-requires-clause-justified : goal.absorb-requires-clause-justified
absorb-requires-clause-justified g c = back_justified c.args.index.now.normal c.requires.edge c.requires.ranks c.requires.idle c.args.context.now.key c.four.result c.requires.key c.four.ensures c.requires.context.reachable
