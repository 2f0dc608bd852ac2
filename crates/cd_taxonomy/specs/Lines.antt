-- The text of groups, whatever relation they come from.
use Rattle.std.specs.Prelude.{ℕ, Bool, not, List, [], ◌++◌, map, filter, flat_map, codes, slice_index_or}
use Rattle.std.specs.List.{list_any}
use Rattle.cd_meaning.specs.Hierarchy.{is_reserved, first_or}
use Rattle.cd_meaning.specs.Text.{ended, group_text, parents_text}
use Rattle.cd_taxonomy.specs.declared.groups.Group.{Group}

-- the group's first member stands for it
abbrev pub head : Group → ℕ
head g = first_or 0 g.members

abbrev pub is_proper : Group → Bool
is_proper g = not (list_any is_reserved g.members)

abbrev pub no_group : Group
no_group = record { members = []; parents = [] }

-- the representatives of a group's direct superclasses
abbrev pub parent_heads : List Group → Group → List ℕ
parent_heads gs g = map (λ p. head (slice_index_or gs p no_group)) g.parents

-- the groups, then the direct superclasses of those with neither owl:Thing nor owl:Nothing
abbrev pub lines_text : List (List ℕ) → List Group → List ℕ
lines_text names gs =
    ended (codes "Ontology(")
    ++ flat_map (λ (g : Group). group_text names g.members) gs
    ++ flat_map (λ (g : Group). parents_text names (head g) (parent_heads gs g))
    (filter is_proper gs)
    ++ ended (codes ")")
