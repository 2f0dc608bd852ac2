use Rattle.cd_context.proofs.Besides.{universal_of}
use Rattle.cd_context.proofs.beside.has_universal.Goals as goal

pub returns : goal.returns
returns c = universal_of c.args.index.now.normal.n4 c.alls.result.now c.args.atom c.is_empty.result c.alls.ensures c.is_empty.ensures
