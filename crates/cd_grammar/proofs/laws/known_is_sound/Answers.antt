use Rattle.cd_grammar.proofs.Finishing.{known_is_sound}
use Rattle.cd_grammar.proofs.laws.known_is_sound.Goals as goal

pub returns : goal.returns
returns c = known_is_sound
