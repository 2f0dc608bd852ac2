use Rattle.cd_context.proofs.Justify.{owed_justified}
use Rattle.cd_context.proofs.laws.owed_is_justified.Goals as goal

pub returns : goal.returns
returns c = owed_justified
