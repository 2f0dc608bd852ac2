use Rattle.cd_saturation.proofs.NamesAlone.{names_answerable}
use Rattle.cd_saturation.proofs.laws.names_are_answerable.Goals as goal

pub returns : goal.returns
returns c = names_answerable
