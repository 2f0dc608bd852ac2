use Rattle.cd_grammar.proofs.Finishing.{read_or_faulty}
use Rattle.cd_grammar.proofs.laws.is_read_or_faulty.Goals as goal

pub returns : goal.returns
returns c = read_or_faulty
