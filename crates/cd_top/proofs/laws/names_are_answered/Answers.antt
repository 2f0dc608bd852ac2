use Rattle.cd_top.proofs.NamesAlone.{names_answered}
use Rattle.cd_top.proofs.laws.names_are_answered.Goals as goal

pub returns : goal.returns
returns c = names_answered
