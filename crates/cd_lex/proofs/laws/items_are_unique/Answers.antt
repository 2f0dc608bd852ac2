-- A text is cut in one way.
use Rattle.cd_lex.proofs.CutLaws.{items_are_unique}
use Rattle.cd_lex.proofs.laws.items_are_unique.Goals as goal

pub returns : goal.returns
returns c = items_are_unique
