use Rattle.std.proofs.Common.{refl}
use Rattle.cd_clause.proofs.Derive.{from_named}
use Rattle.cd_sample.proofs.WorkedDerivations.{link_justified}
use Rattle.cd_sample.proofs.context_tests.tell_link.Goals as goal

pub absorb-requires-clause-justified : goal.absorb-requires-clause-justified
absorb-requires-clause-justified g c =
    link_justified c.args.index.now.normal c.requires.edge c.args.context.now.key c.two.result c.requires.key c.two.ensures (from_named 2 c.requires.two c.two.ensures)
