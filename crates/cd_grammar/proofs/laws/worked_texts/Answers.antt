-- The texts say what was written by hand.
use Rattle.cd_grammar.proofs.WorkedTexts.{worked_documents, worked_faults}
use Rattle.cd_grammar.proofs.laws.worked_texts.Goals as goal

pub returns : goal.returns
returns c = record { documents = worked_documents; faults = worked_faults }
