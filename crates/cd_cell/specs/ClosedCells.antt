-- Cells in which nothing more can be concluded.
use Rattle.std.specs.Prelude.{◌≡◌, ℕ, Bool, List, [], ◌∷◌}
use Rattle.cd_base.specs.Keys.{plain}
use Rattle.cd_base.specs.Lists.{OneOf}
use Rattle.cd_base.specs.declared.normal.Normal.{Normal}
use Rattle.cd_clause.specs.Derivations.{start_key}
use Rattle.cd_model.specs.Canonical.{IsClosure, RolesInRange}
use Rattle.cd_model.specs.Exactness.{Exact, IsTest}
use Rattle.cd_context.specs.State.{State, live_of}
use Rattle.cd_context.specs.declared.facts.Note.{Note}
use Rattle.cd_actor.specs.Cells.{At, AreCells, Had}
use Rattle.cd_cell.specs.Cells.{CellState, OwesFrom, meaning}

-- whole cells for these normal axioms, one at each place, where each note that one of them owes is had by its cell
pub record AreSettled (n : Normal) (cells : List CellState) : Type 0 where
  pub are_cells : AreCells meaning cells
  pub normal : (i : ℕ) (c : CellState) → At cells i c → c.normal ≡ n
  pub had : (i : ℕ) (c : CellState) → At cells i c → (p : ℕ) (note : Note)
      → OwesFrom c.normal c.cells c.contexts p note → Had meaning cells (p, note)

-- what the contexts of this cell say is exact
pub record IsExactCell (n : Normal) (c : CellState) : Type 0 where
  pub exact : (a : ℕ) (s : State) → OneOf (plain a ∷ [], s) c.contexts → Exact n a (live_of s)
  pub test : (a : ℕ) (others : List ℕ) (s : State) → OneOf (start_key a others, s) c.contexts
      → IsTest n a others (live_of s)

-- in closed cells the context of each atom is exact, and that of an atom and negated ones is a test
abbrev pub CellExactness : Type 0
CellExactness = (n : Normal) (below : ℕ → ℕ → Bool) → IsClosure n below → RolesInRange n
    → (cells : List CellState) → AreSettled n cells
    → (i : ℕ) (c : CellState) → At cells i c → IsExactCell n c
