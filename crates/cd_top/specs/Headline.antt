-- What the classify command promises.
use Rattle.std.specs.Prelude.{◌≡◌, ◌↔◌, ℕ, ◌≤◌, List, [], length, Option, Some, slice_get}
use Rattle.std.specs.Io.KnownBytes.{Appends}
use Rattle.cd_io.specs.Streams.{AppendsFront}
use Rattle.cd_syntax.specs.Grammar.{IsRead}
use Rattle.cd_meaning.specs.declared.document.Document.{Document}
use Rattle.cd_meaning.specs.AnyDomain.{Elements, EntailsOver}
use Rattle.cd_meaning.specs.Answer.{IsAnswer}
use Rattle.cd_base.specs.declared.limit_kind.LimitKind.{LimitKind}
use Rattle.cd_saturation.specs.Answerable.{IsOfNamesWithin}
use Rattle.cd_saturation.specs.Limit.{IsReached}
use Rattle.cd_top.specs.Restated.{EntailsNamed, Restates}

-- how many bytes of input the command takes: no option sets it
abbrev pub standard_bytes : ℕ
standard_bytes = 268435456

-- the input is a document of at most so many bytes
abbrev pub IsAccepted : List ℕ → ℕ → Type 0
IsAccepted input most = (length input ≤ most) × (document : Document) × IsRead input document

-- the input is such a document, and by its normal axioms a maximum is reached with that number
abbrev pub IsLimited : List ℕ → ℕ → ℕ → ℕ → LimitKind → ℕ → Type 0
IsLimited input most max_contexts max_facts kind number = (length input ≤ most) × (document : Document) × IsRead input document × IsReached document max_contexts max_facts kind number

-- the input is such a document, and no maximum can be reached by its normal axioms
pub record IsAnswerable (input : List ℕ) (most max_contexts max_facts : ℕ) : Type 0 where
  pub accepted : IsAccepted input most
  pub unlimited : (kind : LimitKind) (number : ℕ) → IsLimited input most max_contexts max_facts kind number → ⊥

-- the text is the answer to the document that the input is, and is itself a document that says the same
abbrev pub IsAnswered : List ℕ → List ℕ → Type 0
IsAnswered input text = (document : Document) × IsRead input document × IsAnswer document text × (said : Document) × Restates document text said

-- the input was an accepted document and was read to its end, and exactly one text was added: its answer
pub record IsClassified (input : List ℕ) (most : ℕ) (left : Option (List ℕ)) (old new : Option (List ℕ)) : Type 0 where
  pub within : length input ≤ most
  pub at_end : left ≡ Some []
  pub answered : (text : List ℕ) × IsAnswered input text × Appends old new text

-- the input was an accepted document, and a front of its answer was added
pub record IsPartlyAnswered (input : List ℕ) (most : ℕ) (old new : Option (List ℕ)) : Type 0 where
  pub within : length input ≤ most
  pub answered : (text : List ℕ) × IsAnswered input text × AppendsFront old new text

-- ---- laws

-- an input has no two answers: any two runs that are done on the same bytes add the same text
abbrev pub HasOneText : Type 0
HasOneText = (input one other : List ℕ) → IsAnswered input one → IsAnswered input other → one ≡ other

-- the document that an answer is has one class below another exactly where every structure over this domain, finite or not, in which the
-- axioms of the input hold has every element of the first in the second, and every structure over a finite domain
abbrev pub IsBelowOver : Type 0 → Type 0
IsBelowOver D = (input text : List ℕ) (document said : Document) → IsAnswered input text → IsRead input document → IsRead text said
    → (a b : ℕ) (i j : List ℕ) → slice_get document.classes a ≡ Some i → slice_get document.classes b ≡ Some j
    → EntailsNamed said i j ↔ (EntailsOver D document.axioms a b × ((n : ℕ) → EntailsOver (Elements n) document.axioms a b))

-- an accepted document of named classes alone, within the sizes that the maxima leave to such documents, is answerable
abbrev pub NamesAreAnswered : Type 0
NamesAreAnswered = (input : List ℕ) (document : Document) (most max_contexts max_facts : ℕ) → length input ≤ most → IsRead input document
    → IsOfNamesWithin document max_contexts max_facts → IsAnswerable input most max_contexts max_facts
