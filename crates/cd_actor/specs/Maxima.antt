-- The maximum that a run has reached.
use Rattle.std.specs.Prelude.{◌≡◌, ℕ, ◌<◌, ◌≤◌}
use Rattle.cd_base.specs.declared.limit_kind.LimitKind.{LimitKind}
use Rattle.cd_base.specs.declared.limit_kind.LimitKind.TheVariants.{Contexts, Facts}

-- of these two sums, that of this kind has reached its maximum, and the number is that sum; the contexts come first
abbrev pub Reaches : ℕ → ℕ → ℕ → ℕ → LimitKind → ℕ → Type 0
Reaches contexts facts max_contexts max_facts Contexts number =
    (number ≡ contexts) × (max_contexts ≤ number)
Reaches contexts facts max_contexts max_facts Facts number =
    (number ≡ facts) × (max_facts ≤ number) × (contexts < max_contexts)

-- neither sum has reached its maximum
pub record AreBelow (contexts facts max_contexts max_facts : ℕ) : Type 0 where
  pub few_contexts : contexts < max_contexts
  pub few_facts : facts < max_facts
