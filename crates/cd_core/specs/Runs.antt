-- Runs by any list of choices.
use Rattle.std.specs.Prelude.{◌≡◌, ℕ, false, List, [], ◌∷◌}
use Rattle.cd_actor.specs.Meaning.{Meaning}
use Rattle.cd_actor.specs.Settled.{IsSettled, KeepsFamily}
use Rattle.cd_core.specs.State.{CoreState, Runs, KeepsAll}
use Rattle.cd_core.specs.Begin.{IsBegun}
use Rattle.cd_core.specs.Steps.{IsStepOrEmpty}
use Rattle.cd_core.specs.declared.stops.Step.{Step}

-- what `step` ensures where it wants for no memory
pub record IsStepped {A M : Type 0} (g : Meaning A M) (choice : ℕ)
    (old new : CoreState A M) : Type 0 where
  pub step : Step
  pub ok : IsStepOrEmpty g choice old new step
  pub keeps : KeepsAll g old.cells old.pending new.cells new.pending
  pub family : KeepsFamily g old.cells new.cells
  pub sound : Runs g new.cells new.pending
  pub stands : new.failed ≡ false

-- one core comes to the other by steps with these choices
abbrev pub ComesTo : {A M : Type 0} → Meaning A M → List ℕ → CoreState A M → CoreState A M
    → Type 0
ComesTo g [] old new = new ≡ old
ComesTo {A} {M} g (choice ∷ choices) old new =
    (next : CoreState A M) × IsStepped g choice old next × ComesTo g choices next new

-- whatever the choices: where a core that began with these start messages has come to one in which nothing pends, its cells are settled: whole
-- cells of the family of the first ones, which have each start message and each message that is owed
abbrev pub EveryOrder : {A M : Type 0} → Meaning A M → Type 0
EveryOrder {A} {M} g = (cells : List A) (start : List (ℕ × M)) (choices : List ℕ)
    (first last : CoreState A M)
    → IsBegun g cells start first → Runs g first.cells first.pending → ComesTo g choices first last
    → last.pending ≡ [] → IsSettled g cells start last.cells
