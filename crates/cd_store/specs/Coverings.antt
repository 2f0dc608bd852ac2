-- The search for the least live clause that covers a clause.
use Rattle.std.specs.Prelude.{ℕ, ◌≤◌, Option, None, Some, List, [], slice_index_or}
use Rattle.cd_base.specs.Lists.{OneOf}
use Rattle.cd_clause.specs.Covering.{Covers}
use Rattle.cd_clause.specs.declared.elem.Elem.{Elem}

-- the number is live, and its clause covers this clause
pub record IsCovering (clauses : List (List Elem)) (live : List ℕ) (clause : List Elem)
    (n : ℕ) : Type 0 where
  pub isin : OneOf n live
  pub covers : Covers (slice_index_or clauses n []) clause

-- the number that was found, if one was, is that of a live clause that covers this one
abbrev pub HoldsCovering : List (List Elem) → List ℕ → List Elem → Option ℕ → Type 0
HoldsCovering clauses live clause None = Unit {0}
HoldsCovering clauses live clause (Some i) = IsCovering clauses live clause i

-- a number was found that is at most n
abbrev pub IsAtMost : Option ℕ → ℕ → Type 0
IsAtMost None n = ⊥
IsAtMost (Some i) n = i ≤ n
