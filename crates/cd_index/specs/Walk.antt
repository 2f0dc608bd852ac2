-- Which roles the pairs lead to from a role.
use Rattle.std.specs.Prelude.{ℕ, ◌==◌, ◌<◌, List, [], length, map, filter, slice_index_or, All, Contains}
use Rattle.cd_base.specs.declared.normal.RolePair.{RolePair}

-- the higher roles of the pairs whose lower role is r
abbrev pub told_above : List RolePair → ℕ → List ℕ
told_above pairs r = map (λ (p : RolePair). p.higher)
    (filter (λ (p : RolePair). p.lower == r) pairs)

-- every role in the lists has a list
abbrev pub AreWithin : List (List ℕ) → Type 0
AreWithin told = All (λ list. All (λ r. r < length told) list) told

-- s is in the list of r, or in that of a role that r leads to
pub data Leads (told : List (List ℕ)) (r : ℕ) : ℕ → Type 0 where
  once : {s : ℕ} → Contains (slice_index_or told r []) s → Leads told r s
  on : {s : ℕ} (t : ℕ) → Leads told r t → Contains (slice_index_or told t []) s → Leads told r s
