use Rattle.cd_context.proofs.Justify.{stored_derived}
use Rattle.cd_context.proofs.laws.stored_is_derived.Goals as goal

pub returns : goal.returns
returns c = stored_derived
