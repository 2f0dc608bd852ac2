use Rattle.cd_grammar.proofs.OneReading.{one_known}
use Rattle.cd_grammar.proofs.laws.has_one_reading.Goals as goal

pub returns : goal.returns
returns c = one_known
