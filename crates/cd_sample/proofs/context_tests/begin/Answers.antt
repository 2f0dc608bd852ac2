use Rattle.cd_clause.proofs.Derive.{from_named}
use Rattle.cd_sample.proofs.context_tests.begin.Goals as goal

pub begin-requires : goal.begin-requires
begin-requires g c = from_named c.args.class c.requires c.single.ensures
