-- The answer as a document: read by the grammar alone, it says of its classes what the input says.
use Rattle.std.specs.Prelude.{◌≡◌, ℕ, ◌↔◌, List, Contains, Some, slice_get}
use Rattle.cd_meaning.specs.declared.document.Document.{Document}
use Rattle.cd_meaning.specs.Answer.{IsAnswer}
use Rattle.cd_meaning.specs.Entailment.{Entails}
use Rattle.cd_syntax.specs.Grammar.{IsRead}

-- these are the names of two classes of the document, and it entails that the first is below the second
abbrev pub EntailsNamed : Document → List ℕ → List ℕ → Type 0
EntailsNamed document i j =
    (a : ℕ) × (b : ℕ) × (slice_get document.classes a ≡ Some i) × (slice_get document.classes b ≡ Some j) × Entails document.axioms a b

-- two documents have the same classes by name, and entail the same of any two of them
pub record SaysTheSame (a b : Document) : Type 0 where
  pub classes : (i : List ℕ) → Contains a.classes i ↔ Contains b.classes i
  pub below : (i j : List ℕ) → EntailsNamed a i j ↔ EntailsNamed b i j

-- the text is a document that says the same as this one, and is its own answer
pub record Restates (document : Document) (bytes : List ℕ) (said : Document) : Type 0 where
  pub read : IsRead bytes said
  pub same : SaysTheSame document said
  pub answer : IsAnswer said bytes

-- ---- laws

-- the answer to an accepted document is an accepted document that says the same, and is its own answer
abbrev pub AnswerIsRestated : Type 0
AnswerIsRestated = (input bytes : List ℕ) (document : Document) → IsRead input document → IsAnswer document bytes
    → (said : Document) × Restates document bytes said

-- documents that say the same have the same answer
abbrev pub SameHaveSameAnswer : Type 0
SameHaveSameAnswer = (a b : Document) (x y : List ℕ) → SaysTheSame a b → IsAnswer a x → IsAnswer b y → x ≡ y
