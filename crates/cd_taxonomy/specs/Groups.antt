-- The groups of a relation as the code keeps them: classes by number, direct superclasses by the numbers of their groups.
use Rattle.std.specs.Prelude.{ℕ, ◌<◌, ◌==◌, Bool, List, length, map, All}
use Rattle.std.specs.List.{position_or_len}
use Rattle.cd_meaning.specs.Hierarchy.{representatives, members, parents}
use Rattle.cd_taxonomy.specs.declared.groups.Group.{Group}

-- the place of r among the representatives
abbrev pub group_number : List ℕ → ℕ → ℕ
group_number rs r = position_or_len (λ s. s == r) rs

module _ (names : List (List ℕ)) (below : ℕ → ℕ → Bool) where
  abbrev pub group_at : ℕ → Group
  group_at r = record {
    members = members names below r;
    parents = map (group_number (representatives names below)) (parents names below r);
  }

  -- the groups in the order of their representatives
  abbrev pub groups : List Group
  groups = map group_at (representatives names below)

-- each group has a member, its members are below n, and its direct superclasses are among the groups
pub record IsNumbered (n : ℕ) (gs : List Group) : Type 0 where
  pub inhabited : All (λ (g : Group). 0 < length g.members) gs
  pub members : All (λ (g : Group). All (λ c. c < n) g.members) gs
  pub parents : All (λ (g : Group). All (λ p. p < length gs) g.parents) gs
