-- How a run ends.
use Rattle.std.specs.Prelude.{◌≡◌, ℕ, ◌<◌, ◌⊎◌, List}
use Rattle.cd_actor.specs.Meaning.{Meaning}
use Rattle.cd_actor.specs.Cells.{AreCells, total}
use Rattle.cd_actor.specs.Maxima.{AreBelow, Reaches}
use Rattle.cd_actor.specs.Settled.{IsSettled, KeepsHad, KeepsFamily}
use Rattle.cd_core.specs.Steps.{IsTurn}
use Rattle.cd_core.specs.declared.stops.Stop.{Stop}
use Rattle.cd_core.specs.declared.stops.Stop.TheVariants.{Limit, Memory}

-- cells with these messages have come to where nothing pends, with both sums below their maxima
pub record IsEnd {A M : Type 0} (g : Meaning A M) (cells : List A) (pending : List (ℕ × M))
    (max_contexts max_facts : ℕ) (after : List A) : Type 0 where
  pub settled : IsSettled g cells pending after
  pub few : AreBelow (total g.contexts after) (total g.facts after) max_contexts max_facts

-- the count that has reached its maximum is told with its sum, the contexts first, and the cells are of their family and have what they had
abbrev pub IsStop : {A M : Type 0} → Meaning A M → List A → ℕ → ℕ → Stop A → Type 0
IsStop g cells max_contexts max_facts (Limit kind n after) =
    AreCells g after.items × KeepsHad g cells after.items × KeepsFamily g cells after.items
    × Reaches (total g.contexts after.items) (total g.facts after.items) max_contexts max_facts
    kind n
IsStop g cells max_contexts max_facts Memory = Unit {0}

-- cells of the run, whose two sums were below these numbers, have come to the new ones by one delivery
pub record IsOneDeliveryPast {A M : Type 0} (g : Meaning A M) (cells : List A) (contexts facts : ℕ)
    (after : List A) : Type 0 where
  pub before : List A
  pub message : ℕ × M
  pub out : List (ℕ × M)
  pub had : KeepsHad g cells before
  pub few_contexts : total g.contexts before < contexts
  pub few_facts : total g.facts before < facts
  pub turn : IsTurn g before message after out

-- nothing is delivered once a sum has reached its maximum: the cells are as given, or one delivery before them both sums were below their maxima
abbrev pub StopsAtOnce : {A M : Type 0} → Meaning A M → List A → ℕ → ℕ → Stop A → Type 0
StopsAtOnce g cells max_contexts max_facts (Limit kind n after) =
    (after.items ≡ cells) ⊎ IsOneDeliveryPast g cells max_contexts max_facts after.items
StopsAtOnce g cells max_contexts max_facts Memory = Unit {0}
