-- What a context that takes a fact comes to.
use Rattle.std.specs.Prelude.{◌≡◌, ◌<◌, ◌⊎◌, true, List}
use Rattle.cd_base.specs.declared.normal.Normal.{Normal}
use Rattle.cd_context.specs.declared.facts.Fact.{Fact}
use Rattle.cd_context.specs.declared.facts.Note.{Note}
use Rattle.cd_context.specs.Contract.{Grows, GainsOnly, Sends}
use Rattle.cd_base.specs.Counts.{last}
use Rattle.cd_context.specs.Facts.{has_fact, count}
use Rattle.cd_context.specs.Justified.{IsContext, ClosedLocally}
use Rattle.cd_context.specs.Owes.{Owes}
use Rattle.cd_context.specs.State.{State}

-- whether the fact was taken or memory was wanted
pub record Keeps (n : Normal) (old : State) (fact : Fact) (new : State) : Type 0 where
  pub context : IsContext n new
  pub grows : Grows old new
  pub only : GainsOnly old fact new

-- a fact that it didn't have was taken
pub record Absorbs (n : Normal) (old : State) (fact : Fact) (new : State)
    (out new_out : List Note) : Type 0 where
  pub closed : ClosedLocally n new
  pub had : has_fact new fact ≡ true
  pub risen : (count old < count new) ⊎ (count new ≡ last)
  pub sends : Sends n (Unit {0}) (Owes n old) new out new_out
