-- The clauses of one context, by number, and the numbers of the live ones.
use Rattle.std.specs.Prelude.{◌≡◌, ℕ, ◌<◌, ◌≤◌, ◌⊎◌, List, [], ◌∷◌, ◌++◌, length, slice_index_or, reverse}
use Rattle.cd_clause.specs.declared.elem.Elem.{Elem}
use Rattle.cd_base.specs.Lists.{OneOf}
use Rattle.cd_clause.specs.Covering.{Covers}
use Rattle.cd_clause.specs.Derivations.{Redundant}
use Rattle.cd_clause.specs.Numbers.{picked}
use Rattle.cd_store.specs.declared.store.Added.{Added}
use Rattle.cd_store.specs.declared.store.Added.TheVariants.{New, Held}

-- what contracts see of a store: all clauses by number, live or dead, and the numbers of the live ones
pub record StoreState : Type 0 where
  pub clauses : List (List Elem)
  pub live : List ℕ

-- each number is below all that follow it
abbrev pub IsAscending : List ℕ → Type 0
IsAscending [] = Unit {0}
IsAscending (n ∷ ns) = ((m : ℕ) → OneOf m ns → n < m) × IsAscending ns

-- no clause is covered by an earlier one, the newest first
abbrev pub CoveredByNoEarlier : List (List Elem) → Type 0
CoveredByNoEarlier [] = Unit {0}
CoveredByNoEarlier (c ∷ cs) =
    ((d : List Elem) → OneOf d cs → Covers d c → ⊥) × CoveredByNoEarlier cs

-- what a store keeps: live numbers are those of clauses and ascend, no live clause covers another, and no clause one of a higher number
pub record IsStore (clauses : List (List Elem)) (live : List ℕ) : Type 0 where
  pub in_range : (n : ℕ) → OneOf n live → n < length clauses
  pub ascends : IsAscending live
  -- each stored clause is covered by a live one
  pub covered : (c : List Elem) → OneOf c clauses → Redundant (picked clauses live) c
  pub apart : CoveredByNoEarlier (reverse clauses)
  -- no live clause covers another
  pub minimal : (m k : ℕ) → OneOf m live → OneOf k live
      → Covers (slice_index_or clauses m []) (slice_index_or clauses k []) → m ≡ k

-- the least of the live numbers whose clauses cover this clause
pub record IsHeld (clauses : List (List Elem)) (live : List ℕ) (clause : List Elem)
    (i : ℕ) : Type 0 where
  pub isin : OneOf i live
  pub covers : Covers (slice_index_or clauses i []) clause
  pub least : (j : ℕ) → OneOf j live → Covers (slice_index_or clauses j []) clause → i ≤ j

-- `after` is what is live once `new` was added to what was live before: the new one is in, what is live is the new one or was live,
-- and what was live is live or the new one covers it
pub record IsAdded (new : List Elem) (before after : List (List Elem)) : Type 0 where
  pub isin : OneOf new after
  pub only : (c : List Elem) → OneOf c after → (c ≡ new) ⊎ OneOf c before
  pub kept : (c : List Elem) → OneOf c before → OneOf c after ⊎ Covers new c

-- the clause is stored under the next number, live, and the live clauses that it covers are dead
pub record IsNew (old : StoreState) (clause : List Elem) (new : StoreState) (n : ℕ) : Type 0 where
  -- the next number
  pub next : n ≡ length old.clauses
  -- nothing stored is forgotten
  pub stored : new.clauses ≡ old.clauses ++ clause ∷ []
  pub added : IsAdded clause (picked old.clauses old.live) (picked new.clauses new.live)
  -- what is live is the new number, or was live
  pub numbers : (m : ℕ) → OneOf m new.live → (m ≡ n) ⊎ (OneOf m old.live × (m < length old.clauses))
  -- no clause that the new one covers is live
  pub weaker : (c : List Elem) → OneOf c (picked new.clauses new.live) → Covers clause c
      → c ≡ clause
  -- no live clause covered it
  pub not_held : Redundant (picked old.clauses old.live) clause → ⊥

-- what adding a clause comes to
abbrev pub IsOutcome : StoreState → List Elem → StoreState → Added → Type 0
IsOutcome old clause new (New n) = IsNew old clause new n
IsOutcome old clause new (Held i) = IsHeld old.clauses old.live clause i × (new ≡ old)
