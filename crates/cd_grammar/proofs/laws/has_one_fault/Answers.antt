use Rattle.cd_grammar.proofs.OneReading.{one_refusal}
use Rattle.cd_grammar.proofs.laws.has_one_fault.Goals as goal

pub returns : goal.returns
returns c = one_refusal
