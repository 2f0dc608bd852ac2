-- What a step does.
use Rattle.std.specs.Prelude.{◌≡◌, ℕ, ◌%◌, ◌++◌, slice_set, remove, List, [], length}
use Rattle.cd_actor.specs.Meaning.{Meaning, Delivery}
use Rattle.cd_actor.specs.Cells.{At}
use Rattle.cd_core.specs.State.{CoreState}
use Rattle.cd_core.specs.declared.stops.Step.{Step}
use Rattle.cd_core.specs.declared.stops.Step.TheVariants.{Delivered, Empty}

-- the cell of the message takes it, the others stay, and `out` is what it came to owe
pub record IsTurn {A M : Type 0} (g : Meaning A M) (cells : List A) (x : ℕ × M)
    (cells_new : List A) (out : List (ℕ × M)) : Type 0 where
  pub old : A
  pub new : A
  pub at : At cells x.0 old
  pub is : cells_new ≡ slice_set cells x.0 new
  pub delivery : Delivery g old x.1 new out

-- the message of that choice is delivered; the others pend in their order, and what its cell came to owe behind them
pub record IsStep {A M : Type 0} (g : Meaning A M) (choice : ℕ) (cells : List A)
    (pending : List (ℕ × M)) (cells_new : List A) (pending_new : List (ℕ × M)) : Type 0 where
  pub message : ℕ × M
  pub out : List (ℕ × M)
  pub is : At pending (choice % length pending) message
  pub turn : IsTurn g cells message cells_new out
  pub joins : pending_new ≡ remove pending (choice % length pending) ++ out

-- a delivery, or nothing where nothing pends
abbrev pub IsStepOrEmpty : {A M : Type 0} → Meaning A M → ℕ → CoreState A M → CoreState A M
    → Step → Type 0
IsStepOrEmpty g choice old new Delivered =
    IsStep g choice old.cells old.pending new.cells new.pending
IsStepOrEmpty g choice old new Empty = (old.pending ≡ []) × (new ≡ old)
