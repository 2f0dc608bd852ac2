-- The answer to a document.
use Rattle.std.specs.Prelude.{◌≡◌, ℕ, ◌<◌, Bool, ◌↔◌, IsTrue, List, length}
use Rattle.cd_meaning.specs.declared.document.Document.{Document}
use Rattle.cd_meaning.specs.Entailment.{Entails}
use Rattle.cd_meaning.specs.Text.{text}

-- the test says of every two classes of the document whether it entails that the first is below the second
abbrev pub Decides : Document → (ℕ → ℕ → Bool) → Type 0
Decides document below = (a b : ℕ) → a < length document.classes → b < length document.classes → IsTrue (below a b) ↔ Entails document.axioms a b

-- the bytes are the text of what the document entails
abbrev pub IsAnswer : Document → List ℕ → Type 0
IsAnswer document bytes = (below : ℕ → ℕ → Bool) × Decides document below × (bytes ≡ text document.classes below)

-- a document has no two answers
abbrev pub HasOneAnswer : Type 0
HasOneAnswer = (document : Document) (a b : List ℕ) → IsAnswer document a → IsAnswer document b → a ≡ b
