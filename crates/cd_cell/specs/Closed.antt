-- Contexts that owe nothing that is not had.
use Rattle.std.specs.Prelude.{◌≡◌, ℕ, true, List}
use Rattle.cd_base.specs.Lists.{OneOf}
use Rattle.cd_base.specs.declared.normal.Normal.{Normal}
use Rattle.cd_model.specs.Saturated.{Saturated}
use Rattle.cd_context.specs.declared.facts.Note.{Note}
use Rattle.cd_context.specs.Facts.{has_fact}
use Rattle.cd_context.specs.Justified.{ClosedLocally}
use Rattle.cd_context.specs.Owes.{Owes}
use Rattle.cd_context.specs.State.{State, live_of}

-- the contexts of these keys are closed, each under its own key, and each note that one of them owes is had by the context of its key
pub record Closed (n : Normal) (keys : List (List ℕ)) (state : List ℕ → State) : Type 0 where
  pub own : (h : List ℕ) → OneOf h keys → (state h).key ≡ h
  pub locally : (h : List ℕ) → OneOf h keys → ClosedLocally n (state h)
  pub had : (h : List ℕ) → OneOf h keys → (note : Note) → Owes n (state h) note
      → OneOf note.key keys × (has_fact (state note.key) note.fact ≡ true)

-- closed contexts are saturated
abbrev pub Saturation : Type 0
Saturation = (n : Normal) (keys : List (List ℕ)) (state : List ℕ → State) → Closed n keys state
    → Saturated n keys (λ k. live_of (state k))
