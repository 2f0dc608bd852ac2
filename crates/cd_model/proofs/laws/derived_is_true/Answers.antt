use Rattle.cd_model.proofs.Sound.{sound}
use Rattle.cd_model.proofs.laws.derived_is_true.Goals as goal

pub returns : goal.returns
returns c = sound
