use Rattle.cd_top.proofs.Answering.{one_text}
use Rattle.cd_top.proofs.laws.has_one_text.Goals as goal

pub returns : goal.returns
returns c = one_text
