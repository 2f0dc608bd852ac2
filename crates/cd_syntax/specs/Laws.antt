-- What holds of the definitions themselves.
use Rattle.std.specs.Prelude.{◌≡◌, ◌<◌, ◌^◌, ◌⊎◌, ℕ, List, length, All}
use Rattle.cd_base.specs.Iri.{IsIri}
use Rattle.cd_meaning.specs.declared.document.Document.{Document}
use Rattle.cd_syntax.specs.declared.known.Known.{Known}
use Rattle.cd_syntax.specs.declared.refusal.Refusal.{Refusal}
use Rattle.cd_syntax.specs.Grammar.{IsDocument, IsRead}
use Rattle.cd_syntax.specs.Bounds.{IsSound}
use Rattle.cd_syntax.specs.Refusal.{IsFaulty}

-- a text is no two documents: at its end one thing is known
abbrev pub HasOneReading : Type 0
HasOneReading = (bytes : List ℕ) (a b : Known) → IsDocument bytes a → IsDocument bytes b → a ≡ b

-- what is known at the end of a document is what a document may have, and its classes have full IRIs for names
abbrev pub KnownIsSound : Type 0
KnownIsSound = (bytes : List ℕ) (known : Known) → IsDocument bytes known
    → IsSound known × All IsIri known.classes

-- a text has no two first faults
abbrev pub HasOneFault : Type 0
HasOneFault = (bytes : List ℕ) (r s : Refusal) → IsFaulty bytes r → IsFaulty bytes s → r ≡ s

-- a text that is a document has no fault
abbrev pub HasNoFaultWhereRead : Type 0
HasNoFaultWhereRead = (bytes : List ℕ) (known : Known) (r : Refusal) → IsDocument bytes known
    → IsFaulty bytes r → ⊥

-- a text of fewer than 2^31 bytes is a document or has a first fault
abbrev pub IsReadOrFaulty : Type 0
IsReadOrFaulty = (bytes : List ℕ) → length bytes < 2 ^ 31
    → ((document : Document) × IsRead bytes document) ⊎ ((r : Refusal) × IsFaulty bytes r)
