-- The cells of a run: how they begin, and what they have come to.
use Rattle.std.specs.Prelude.{◌≡◌, ℕ, ◌<◌, Bool, false, List, [], ◌∷◌, length}
use Rattle.cd_base.specs.Keys.{plain}
use Rattle.cd_base.specs.Lists.{OneOf}
use Rattle.cd_base.specs.declared.normal.Normal.{Normal}
use Rattle.cd_actor.specs.Cells.{At, AreOf, Had}
use Rattle.cd_context.specs.declared.facts.Fact.TheVariants.{Start}
use Rattle.cd_context.specs.declared.facts.Note.{Note}
use Rattle.cd_model.specs.Canonical.{IsClosure}
use Rattle.cd_cell.specs.Cells.{CellState, meaning, place_of}
use Rattle.cd_cell.specs.ClosedCells.{AreSettled}

-- a test tells which roles are under which
abbrev pub HasClosure : Normal → Type 0
HasClosure n = (below : ℕ → ℕ → Bool) × IsClosure n below

-- a cell without contexts, at that place of so many
abbrev pub new_cell : Normal → ℕ → ℕ → CellState
new_cell n count number = record {
  number = number;
  cells = count;
  normal = n;
  contexts = [];
  failed = false;
}

-- so many cells without contexts, one at each place
pub record AreNew (n : Normal) (count : ℕ) (cells : List CellState) : Type 0 where
  pub each : length cells ≡ count
  pub are : (i : ℕ) (c : CellState) → At cells i c → c ≡ new_cell n count i

-- the message that begins the context of the key
abbrev pub start_at : ℕ → List ℕ → ℕ × Note
start_at count key = (place_of count key, record { key = key; fact = Start })

-- the message that begins the context of the class
abbrev pub start_of : ℕ → ℕ → ℕ × Note
start_of count a = start_at count (plain a ∷ [])

-- the messages that begin the contexts of the first classes
pub record AreStarts (count classes : ℕ) (start : List (ℕ × Note)) : Type 0 where
  pub only : (x : ℕ × Note) → OneOf x start → (a : ℕ) × (a < classes) × (x ≡ start_of count a)
  pub every : (a : ℕ) → a < classes → OneOf (start_of count a) start

-- the context of the key has begun in its cell
abbrev pub HasBegun : ℕ → List CellState → List ℕ → Type 0
HasBegun count cells key = Had meaning cells (start_at count key)

-- so many closed cells for these normal axioms, in which the contexts of the first classes have begun
pub record AreRun (n : Normal) (count classes : ℕ) (cells : List CellState) : Type 0 where
  pub settled : AreSettled n cells
  pub family : AreOf meaning (count, n) cells
  pub begun : (a : ℕ) → a < classes → HasBegun count cells (plain a ∷ [])
