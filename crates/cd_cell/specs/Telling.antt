-- What telling a note does to contexts, and what they owe.
use Rattle.std.specs.Prelude.{◌≡◌, ◌<◌, ◌⊎◌, ℕ, true, false, List, Option, Some}
use Rattle.cd_base.specs.Lists.{OneOf, HasNoRepeats}
use Rattle.cd_base.specs.declared.normal.Normal.{Normal}
use Rattle.cd_clause.specs.Derivations.{Reachable}
use Rattle.cd_context.specs.Contract.{Grows}
use Rattle.cd_base.specs.Counts.{last}
use Rattle.cd_context.specs.Facts.{has_fact, same_key, count}
use Rattle.cd_context.specs.Justified.{Justified, IsContext, ClosedLocally}
use Rattle.cd_context.specs.Owes.{Owes}
use Rattle.cd_context.specs.State.{State}
use Rattle.cd_context.specs.declared.facts.Fact.{Fact}
use Rattle.cd_context.specs.declared.facts.Note.{Note}
use Rattle.indexmap.specs.IndexMap.{insert_entry}
use Rattle.cd_cell.specs.Cells.{state_at}

-- the contexts after that of the key has come to a state: a key that is there keeps its place, and a new one goes last
abbrev pub put : List (List ℕ × State) → List ℕ → State → List (List ℕ × State)
put contexts key s = insert_entry same_key contexts key s

-- each context has its key
abbrev pub AreOwn : List (List ℕ × State) → Type 0
AreOwn contexts = (h : List ℕ) (s : State) → OneOf (h, s) contexts → s.key ≡ h

-- each context has its key, keeps what a context keeps, and is closed
pub record AreClosedContexts (n : Normal) (contexts : List (List ℕ × State)) : Type 0 where
  pub own : AreOwn contexts
  pub context : (h : List ℕ) (s : State) → OneOf (h, s) contexts → IsContext n s
  pub closed : (h : List ℕ) (s : State) → OneOf (h, s) contexts → ClosedLocally n s

-- the state is one of a context of the key, with all that was there before
pub record IsNext (n : Normal) (before : Option State) (key : List ℕ) (s : State) : Type 0 where
  pub own : s.key ≡ key
  pub context : IsContext n s
  pub grows : (b : State) → before ≡ Some b → Grows b s

-- the state is closed and has the fact, and more than there was before where the fact is new; the notes are justified for keys that can
-- be reached, and each note that the state owes was owed before or is one of them
pub record Takes (n : Normal) (before : Option State) (fact : Fact) (s : State)
    (notes : List Note) : Type 0 where
  pub closed : ClosedLocally n s
  pub had : has_fact s fact ≡ true
  pub risen : (b : State) → before ≡ Some b → has_fact b fact ≡ false
      → (count b < count s) ⊎ (count s ≡ last)
  pub lawful : (note : Note) → OneOf note notes
      → Reachable n note.key × Justified n note.key note.fact
  pub every : (note : Note) → Owes n s note
      → ((b : State) × (before ≡ Some b) × Owes n b note) ⊎ OneOf note notes

-- the context of the key has come to a state, with all that was there before
pub record Puts (n : Normal) (old : List (List ℕ × State)) (key : List ℕ)
    (new : List (List ℕ × State)) : Type 0 where
  pub state : State
  pub is : new ≡ put old key state
  pub next : IsNext n (state_at old key) key state

-- the context of the key has taken the fact, and the notes are what it came to owe
pub record Tells (n : Normal) (old : List (List ℕ × State)) (key : List ℕ) (fact : Fact)
    (new : List (List ℕ × State)) (notes : List Note) : Type 0 where
  pub puts : Puts n old key new
  pub takes : Takes n (state_at old key) fact puts.state notes

-- the notes are those that one of the contexts owes, each once
pub record AreOwed (n : Normal) (contexts : List (List ℕ × State))
    (notes : List Note) : Type 0 where
  pub only : (note : Note) → OneOf note notes
      → (h : List ℕ) × (s : State) × OneOf (h, s) contexts × Owes n s note
  pub once : HasNoRepeats notes
  pub every : (h : List ℕ) (s : State) → OneOf (h, s) contexts → (note : Note) → Owes n s note
      → OneOf note notes
