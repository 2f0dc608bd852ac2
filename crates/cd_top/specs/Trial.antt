-- What the trial command promises.
use Rattle.std.specs.Prelude.{◌≡◌, ℕ, Bool, List, Option}
use Rattle.std.specs.Io.KnownBytes.{Appends}
use Rattle.cd_io.specs.Streams.{AppendsFront}
use Rattle.cd_meaning.specs.declared.document.Document.{Document}
use Rattle.cd_meaning.specs.Answer.{Decides}
use Rattle.cd_gen.specs.Generated.{generated_axioms, generated_classes, generated_roles}
use Rattle.cd_taxonomy.specs.Summary.{summary_of, summary_text}
use Rattle.cd_base.specs.declared.limit_kind.LimitKind.{LimitKind}
use Rattle.cd_saturation.specs.Limit.{IsReached}

-- the document is the generated one of so many levels
pub record IsGenerated (levels : ℕ) (document : Document) : Type 0 where
  pub axioms : document.axioms ≡ generated_axioms levels
  pub classes : document.classes ≡ generated_classes levels
  pub roles : document.roles ≡ generated_roles

-- the text is the summary of what the generated document entails
abbrev pub IsTrialText : ℕ → List ℕ → Type 0
IsTrialText levels text = (document : Document) × IsGenerated levels document
    × (below : ℕ → ℕ → Bool) × Decides document below
    × (text ≡ summary_text (summary_of document.classes below))

-- exactly one text was added: that summary
abbrev pub IsTried : ℕ → Option (List ℕ) → Option (List ℕ) → Type 0
IsTried levels old new = (text : List ℕ) × IsTrialText levels text × Appends old new text

-- a front of that summary was added
abbrev pub IsPartlyTried : ℕ → Option (List ℕ) → Option (List ℕ) → Type 0
IsPartlyTried levels old new = (text : List ℕ) × IsTrialText levels text × AppendsFront old new text

-- by the normal axioms of the generated document a maximum is reached with that number
abbrev pub IsTrialLimited : ℕ → ℕ → ℕ → LimitKind → ℕ → Type 0
IsTrialLimited levels max_contexts max_facts kind number =
    (document : Document) × IsGenerated levels document
    × IsReached document max_contexts max_facts kind number

-- no maximum can be reached by the normal axioms of the generated document
abbrev pub IsTrialAnswerable : ℕ → ℕ → ℕ → Type 0
IsTrialAnswerable levels max_contexts max_facts = (kind : LimitKind) (number : ℕ)
    → IsTrialLimited levels max_contexts max_facts kind number → ⊥
