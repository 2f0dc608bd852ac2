-- Cells: the contexts of the keys that have one place, of which each key has one.
use Rattle.std.specs.Prelude.{◌≡◌, ℕ, ◌%◌, ◌<◌, Bool, false, min, List, [], ◌∷◌, length, map, Option, Some, None, if◌then◌else◌}
use Rattle.std.specs.List.{sum_by}
use Rattle.std.specs.Option.{option_map_or}
use Rattle.cd_base.specs.Keys.{folded}
use Rattle.cd_base.specs.Lists.{OneOf, HasNoRepeats}
use Rattle.cd_base.specs.declared.normal.Normal.{Normal}
use Rattle.cd_clause.specs.Derivations.{Reachable}
use Rattle.cd_base.specs.Counts.{last}
use Rattle.cd_context.specs.Facts.{has_fact, same_key, count}
use Rattle.cd_context.specs.Justified.{Justified, IsContext, ClosedLocally}
use Rattle.cd_context.specs.Owes.{Owes}
use Rattle.cd_context.specs.State.{State}
use Rattle.cd_context.specs.declared.facts.Note.{Note}
use Rattle.cd_actor.specs.Meaning.{Meaning}

-- a cell's number and how many cells there are, the normal axioms, the contexts with their keys in the order in which they began, and
-- whether a delivery has wanted for memory
pub record CellState : Type 0 where
  pub number : ℕ
  pub cells : ℕ
  pub normal : Normal
  pub contexts : List (List ℕ × State)
  pub failed : Bool

-- which of so many cells has the context of the key
abbrev pub place_of : ℕ → List ℕ → ℕ
place_of cells key = folded 0 key % cells

-- the context of the key, if it is among these
abbrev pub state_at : List (List ℕ × State) → List ℕ → Option State
state_at [] key = None
state_at (e ∷ es) key = if same_key key e.0 then Some e.1 else state_at es key

-- whether the context of the note's key is among these and has its fact
abbrev pub has_note : List (List ℕ × State) → Note → Bool
has_note contexts note = option_map_or (λ s. has_fact s note.fact)
    (state_at contexts note.key) false

-- the note goes to this one of so many cells, its key can be reached, and its fact is justified there
pub record IsLawfulNote (n : Normal) (cells p : ℕ) (note : Note) : Type 0 where
  pub below : p < cells
  pub goes : p ≡ place_of cells note.key
  pub reachable : Reachable n note.key
  pub justified : Justified n note.key note.fact

-- one of these contexts owes the note, and this is the cell of its key
pub record OwesFrom (n : Normal) (cells : ℕ) (contexts : List (List ℕ × State)) (p : ℕ)
    (note : Note) : Type 0 where
  pub key : List ℕ
  pub state : State
  pub here : OneOf (key, state) contexts
  pub owes : Owes n state note
  pub goes : p ≡ place_of cells note.key

-- what a cell keeps at every moment: its contexts are those of distinct keys of its place, and keep what a context keeps
pub record IsCell (n : Normal) (number cells : ℕ) (contexts : List (List ℕ × State)) : Type 0 where
  pub below : number < cells
  pub apart : HasNoRepeats (map (λ e. e.0) contexts)
  pub own : (h : List ℕ) (s : State) → OneOf (h, s) contexts → s.key ≡ h
  pub placed : (h : List ℕ) (s : State) → OneOf (h, s) contexts → place_of cells h ≡ number
  pub context : (h : List ℕ) (s : State) → OneOf (h, s) contexts → IsContext n s

-- no delivery has wanted for memory, and each context is closed
pub record IsWhole (c : CellState) : Type 0 where
  pub stands : c.failed ≡ false
  pub cell : IsCell c.normal c.number c.cells c.contexts
  pub closed : (h : List ℕ) (s : State) → OneOf (h, s) c.contexts → ClosedLocally c.normal s

-- how many contexts; a count that would pass the last u64 stands at it
abbrev pub contexts_of : List (List ℕ × State) → ℕ
contexts_of contexts = min (length contexts) last

-- how many facts the contexts have; a count that would pass the last u64 stands at it
abbrev pub facts_of : List (List ℕ × State) → ℕ
facts_of contexts = min (sum_by (λ e. count e.1) contexts) last

-- a cell as an actor
abbrev pub meaning : Meaning CellState Note
meaning = record {
  Family = ℕ × Normal;
  family = λ c. (c.cells, c.normal);
  place = λ c. c.number;
  places = λ c. c.cells;
  lawful = λ c p note. IsLawfulNote c.normal c.cells p note;
  has = λ c note. has_note c.contexts note;
  owes = λ c p note. OwesFrom c.normal c.cells c.contexts p note;
  whole = IsWhole;
  contexts = λ c. contexts_of c.contexts;
  facts = λ c. facts_of c.contexts;
}

-- what a cell's value keeps at every moment: each of its contexts what a context keeps, and closed while no delivery has wanted for memory
pub record IsSound (c : CellState) : Type 0 where
  pub cell : IsCell c.normal c.number c.cells c.contexts
  pub closed : c.failed ≡ false → (h : List ℕ) (s : State) → OneOf (h, s) c.contexts
      → ClosedLocally c.normal s
