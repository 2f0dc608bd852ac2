-- The loop that closes a context: stored clauses wait to be taken up as premises.
use Rattle.std.specs.Prelude.{◌≡◌, ℕ, ◌+◌, ◌-◌, ◌<◌, ◌≤◌, ◌⊎◌, List, [], ◌++◌, length, filter, nat_lt, slice_index_or}
use Rattle.cd_base.specs.Lists.{OneOf}
use Rattle.cd_base.specs.declared.normal.Normal.{Normal}
use Rattle.cd_clause.specs.declared.elem.Elem.{Elem}
use Rattle.cd_clause.specs.Derivations.{Redundant}
use Rattle.cd_clause.specs.Numbers.{picked}
use Rattle.cd_rules.specs.Facts.{ToldFacts, ConcludesFrom}
use Rattle.cd_store.specs.Store.{StoreState, IsStore}
use Rattle.cd_context.specs.Justified.{IsInTurn}

-- a live clause that doesn't wait any more
abbrev pub IsTakenUp : List (List Elem) → List ℕ → List ℕ → List Elem → Type 0
IsTakenUp clauses live waiting c =
    (k : ℕ) × OneOf k live × (OneOf k waiting → ⊥) × (c ≡ slice_index_or clauses k [])

-- each conclusion from clauses that were taken up is redundant, or is to be added yet
abbrev pub ClosedUpTo : Normal → List ℕ → ToldFacts → List (List Elem) → List ℕ → List ℕ
    → List (List Elem) → Type 0
ClosedUpTo n key told clauses live waiting out =
    (d : List Elem) → ConcludesFrom n key (IsTakenUp clauses live waiting) told d
    → Redundant (picked clauses live) d ⊎ Redundant out d

-- one of the numbers that wait is no longer there
pub record IsTakenFrom (n : ℕ) (old new : List ℕ) : Type 0 where
  pub before : (m : ℕ) → OneOf m old → (m ≡ n) ⊎ OneOf m new
  pub after : (m : ℕ) → OneOf m new → OneOf m old
  pub count : length old ≡ length new + 1

-- one number more waits
pub record IsPutInto (n : ℕ) (old new : List ℕ) : Type 0 where
  pub isin : (m : ℕ) → (m ≡ n) ⊎ OneOf m old → OneOf m new
  pub only : (m : ℕ) → OneOf m new → (m ≡ n) ⊎ OneOf m old
  pub count : length new ≡ length old + 1

-- clauses are stored in turn, and those that wait are stored
pub record IsWorking (n : Normal) (key : List ℕ) (told : ToldFacts) (clauses : List (List Elem))
    (waiting : List ℕ) : Type 0 where
  pub in_turn : IsInTurn n key told clauses
  pub in_range : (m : ℕ) → OneOf m waiting → m < length clauses
  pub fewer : length waiting ≤ length clauses

-- no fewer clauses were taken up than before
abbrev pub TakesUpMore : List (List Elem) → List ℕ → List (List Elem) → List ℕ → Type 0
TakesUpMore clauses waiting clauses_new waiting_new =
    length clauses - length waiting ≤ length clauses_new - length waiting_new

-- each live number that doesn't wait was live before, and didn't wait
abbrev pub Stays : List ℕ → List ℕ → List ℕ → List ℕ → Type 0
Stays live waiting live_new waiting_new = (k : ℕ) → OneOf k live_new → (OneOf k waiting_new → ⊥)
    → OneOf k live × (OneOf k waiting → ⊥)

-- the clauses are those of before, with more of them or not
abbrev pub Follows : List (List Elem) → List (List Elem) → Type 0
Follows old new = (more : List (List Elem)) × (new ≡ old ++ more)

-- what comes of a store to which clauses are added, or none: it has the clauses of before, and of their numbers those that are live were
-- live
pub record Continues (old new : StoreState) : Type 0 where
  pub follows : Follows old.clauses new.clauses
  pub survivors : (k : ℕ) → OneOf k new.live → k < length old.clauses → OneOf k old.live
  -- it keeps what a store keeps
  pub store : IsStore old.clauses old.live → IsStore new.clauses new.live

-- the new store with those of its live clauses alone that the old one has stored
abbrev pub stored_before : StoreState → StoreState → StoreState
stored_before old new = record {
  clauses = new.clauses;
  live = filter (λ k. nat_lt k (length old.clauses)) new.live;
}
