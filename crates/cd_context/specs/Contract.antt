-- What the calls of a context come to.
use Rattle.std.specs.Prelude.{◌≡◌, ◌<◌, ◌⊎◌, true, List, ◌++◌}
use Rattle.cd_base.specs.Appends.{Appends, AppendsOnce}
use Rattle.cd_base.specs.Lists.{OneOf}
use Rattle.cd_base.specs.declared.normal.Normal.{Normal}
use Rattle.cd_clause.specs.declared.elem.Elem.{Elem}
use Rattle.cd_context.specs.declared.facts.Fact.{Fact}
use Rattle.cd_context.specs.declared.facts.Note.{Note}
use Rattle.cd_context.specs.Facts.{has_fact, count}
use Rattle.cd_context.specs.Owes.{Owes}
use Rattle.cd_context.specs.State.{State}

-- the new state has the key, the clauses and the facts of the old one, with more of each or not
pub record Grows (old new : State) : Type 0 where
  pub key : new.key ≡ old.key
  pub clauses : (more : List (List Elem)) × (new.clauses ≡ old.clauses ++ more)
  pub facts : (f : Fact) → has_fact old f ≡ true → has_fact new f ≡ true
  pub count : (count old < count new) ⊎ (count new ≡ count old)

-- the new state has no fact but those of the old one and this one
abbrev pub GainsOnly : State → Fact → State → Type 0
GainsOnly old fact new = (f : Fact) → has_fact new f ≡ true → (has_fact old f ≡ true) ⊎ (f ≡ fact)

-- `new_out` is `out` followed by notes that the new state owes, and where the work was done, by each that became owed
abbrev pub Sends : Normal → Type 0 → (Note → Type 0) → State → List Note → List Note → Type 0
Sends n Done WasOwed state out new_out =
    Appends (λ note added. WasOwed note ⊎ OneOf note added) (Owes n state) Done out new_out

-- `new_out` is `out` followed by notes that the state owes, each once, and where the work was done, by all of them
abbrev pub ListsOwed : Normal → Type 0 → State → List Note → List Note → Type 0
ListsOwed n Done state out new_out = AppendsOnce (Owes n state) Done out new_out
