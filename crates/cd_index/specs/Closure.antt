-- Which roles are under which: the roles above each, and what they tell.
use Rattle.std.specs.Prelude.{◌≡◌, ℕ, ◌<◌, ◌↔◌, Bool, ◌||◌, ◌==◌, IsTrue, List, [], length, slice_index_or}
use Rattle.std.specs.List.{list_any}
use Rattle.cd_base.specs.declared.normal.RolePair.{RolePair}
use Rattle.cd_base.specs.Normal.{Under}

-- the lists of the roles above each role say that r is under s
abbrev pub is_under : List (List ℕ) → ℕ → ℕ → Bool
is_under above r s = r == s || list_any (λ t. t == s) (slice_index_or above r [])

-- there is a list for each role, and together they say the least reflexive and transitive relation over the pairs
pub record IsClosureOf (above : List (List ℕ)) (roles : ℕ) (pairs : List RolePair) : Type 0 where
  pub each : length above ≡ roles
  pub exact : (r s : ℕ) → r < roles → s < roles → IsTrue (is_under above r s) ↔ Under pairs r s
