-- When a run has reached a maximum.
use Rattle.std.specs.Prelude.{ℕ, ◌≤◌}
use Rattle.cd_base.specs.declared.limit_kind.LimitKind.{LimitKind}
use Rattle.cd_base.specs.declared.limit_kind.LimitKind.TheVariants.{Contexts, Facts}
use Rattle.cd_base.specs.declared.normal.Normal.{Normal}
use Rattle.cd_meaning.specs.declared.document.Document.{Document}
use Rattle.cd_normal.specs.NormalForm.{IsStructuralNormalForm}
use Rattle.cd_cell.specs.Counts.{HasContexts, HasFacts}
use Rattle.cd_core.specs.declared.stops.Stop.{Stop}
use Rattle.cd_saturation.specs.declared.halt.Halt.{Halt}
use Rattle.cd_saturation.specs.declared.halt.Halt.TheVariants.{Limit, Memory}

-- there are so many contexts, or so many facts in contexts, and that is the maximum or more
abbrev pub HasReached : Normal → ℕ → ℕ → LimitKind → ℕ → Type 0
HasReached n max_contexts max_facts Contexts number = HasContexts n number × (max_contexts ≤ number)
HasReached n max_contexts max_facts Facts number = HasFacts n number × (max_facts ≤ number)

-- so it is with a structural normal form of the document
abbrev pub IsReached : Document → ℕ → ℕ → LimitKind → ℕ → Type 0
IsReached document max_contexts max_facts kind number =
    (n : Normal) × IsStructuralNormalForm document n
    × HasReached n max_contexts max_facts kind number

-- why there are no answers where a core has stopped
abbrev pub halt_of : {A : Type 0} → Stop A → Halt
halt_of (Stop.Limit kind number cells) = Limit kind number
halt_of Stop.Memory = Memory

-- a run that ends so has reached a maximum, or has run out of memory
abbrev pub HasHalted : Normal → ℕ → ℕ → Halt → Type 0
HasHalted n max_contexts max_facts (Limit kind number) =
    HasReached n max_contexts max_facts kind number
HasHalted n max_contexts max_facts Memory = Unit {0}
