-- The answers to a document, one for each class.
use Rattle.std.specs.Prelude.{◌≡◌, List, length, All}
use Rattle.cd_base.specs.declared.answer.Answer.{Answer}
use Rattle.cd_meaning.specs.declared.document.Document.{Document}
use Rattle.cd_meaning.specs.Answer.{Decides}
use Rattle.cd_taxonomy.specs.Relation.{relation, HasClassesBelow, IsSubsumption}

-- there is one answer for each class, and together they say what the document entails
pub record AreAnswers (document : Document) (above : List Answer) : Type 0 where
  pub each : length above ≡ length document.classes
  pub within : All (HasClassesBelow (length document.classes)) above
  pub subsumption : IsSubsumption (length document.classes) (relation above)
  pub decided : Decides document (relation above)
