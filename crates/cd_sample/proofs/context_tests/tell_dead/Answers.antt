use Rattle.cd_sample.proofs.WorkedDerivations.{dead_justified}
use Rattle.cd_sample.proofs.context_tests.tell_dead.Goals as goal

pub absorb-requires-clause-justified : goal.absorb-requires-clause-justified
absorb-requires-clause-justified g c =
    dead_justified c.args.index.now.normal c.requires.edge c.requires.ranks c.requires.idle c.requires.back c.args.context.now.key c.four_and_not_four-key.result c.requires.key c.four_and_not_four-key.ensures c.requires.context.reachable
