-- What the counts of cells count.
use Rattle.std.specs.Prelude.{◌≡◌, ℕ, ◌≤◌, List, map, length}
use Rattle.std.specs.List.{sum_by}
use Rattle.cd_base.specs.Lists.{OneOf, HasNoRepeats}
use Rattle.cd_base.specs.declared.normal.Normal.{Normal}
use Rattle.cd_actor.specs.Cells.{At, AreCells, total}
use Rattle.cd_context.specs.Facts.{count}
use Rattle.cd_context.specs.Justified.{IsContext}
use Rattle.cd_context.specs.State.{State}
use Rattle.cd_cell.specs.Cells.{CellState, contexts_of, facts_of, meaning}

-- contexts of distinct keys, each of which can be reached, with facts that are justified and clauses that are concluded in turn
pub record AreContexts (n : Normal) (states : List State) : Type 0 where
  pub apart : HasNoRepeats (map (λ (s : State). s.key) states)
  pub each : (s : State) → OneOf s states → IsContext n s

-- there are so many such contexts
abbrev pub HasContexts : Normal → ℕ → Type 0
HasContexts n number = (states : List State) × AreContexts n states × (number ≤ length states)

-- there are such contexts with so many facts
abbrev pub HasFacts : Normal → ℕ → Type 0
HasFacts n number = (states : List State) × AreContexts n states × (number ≤ sum_by count states)

-- the cells' counts are no more than there are
abbrev pub CellCounts : Type 0
CellCounts = (n : Normal) (cells : List CellState) → AreCells meaning cells
    → ((i : ℕ) (c : CellState) → At cells i c → c.normal ≡ n)
    → HasContexts n (total (λ c. contexts_of c.contexts) cells)
    × HasFacts n (total (λ c. facts_of c.contexts) cells)
