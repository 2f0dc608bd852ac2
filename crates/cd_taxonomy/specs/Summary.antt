-- The summary of a taxonomy, and its text.
use Rattle.std.specs.Prelude.{◌≡◌, ℕ, ◌<◌, ◌^◌, Bool, not, ◌&&◌, ◌-◌, ◌==◌, All, if◌then◌else◌, List, [], ◌∷◌, ◌++◌, length, filter, count_by, sum_by, codes, decimal}
use Rattle.cd_meaning.specs.declared.document.Document.{Document}
use Rattle.cd_meaning.specs.Hierarchy.{classes_in_order, is_equivalent, representatives, parents, proper}
use Rattle.cd_taxonomy.specs.declared.groups.Group.{Group}
use Rattle.cd_taxonomy.specs.declared.groups.Summary.{Summary}
use Rattle.cd_taxonomy.specs.Groups.{groups}
use Rattle.cd_taxonomy.specs.Lines.{head, is_proper}
use Rattle.cd_taxonomy.specs.Relation.{IsSubsumption}

-- the groups are those of a subsumption between the classes of the document
pub record IsTaxonomyOf (document : Document) (below : ℕ → ℕ → Bool)
    (gs : List Group) : Type 0 where
  pub subsumption : IsSubsumption (length document.classes) below
  pub grouped : gs ≡ groups document.classes below

-- ---- the counts of a relation between classes

module _ (names : List (List ℕ)) (below : ℕ → ℕ → Bool) where
  -- the classes, with owl:Thing and owl:Nothing
  abbrev pub name_count : ℕ
  name_count = length names

  -- the groups of equivalent classes
  abbrev pub group_count : ℕ
  group_count = length (representatives names below)

  -- the classes other than owl:Nothing in its group
  abbrev pub unsatisfiable_count : ℕ
  unsatisfiable_count = count_by (λ c. is_equivalent below c 1 && not (c == 1))
      (classes_in_order names)

  -- the pairs of a group and a direct superclass that are printed
  abbrev pub link_count : ℕ
  link_count = sum_by (λ r. length (parents names below r)) (proper names below)

-- the four counts
abbrev pub summary_of : List (List ℕ) → (ℕ → ℕ → Bool) → Summary
summary_of classes below = record {
  names = name_count classes below;
  groups = group_count classes below;
  unsatisfiable = unsatisfiable_count classes below;
  links = link_count classes below;
}

-- ---- the same counts by groups

-- fewer than 2 ^ 32 groups, each of so few classes, of one at least, and of so few direct superclasses
pub record AreFew (gs : List Group) : Type 0 where
  pub few : length gs < 2 ^ 32
  pub members : All (λ (g : Group). length g.members < 2 ^ 32) gs
  pub inhabited : All (λ (g : Group). 0 < length g.members) gs
  pub parents : All (λ (g : Group). length g.parents < 2 ^ 32) gs

-- the classes of the groups
abbrev pub member_total : List Group → ℕ
member_total gs = sum_by (λ (g : Group). length g.members) gs

-- the classes of the group other than owl:Nothing, which stands for its group
abbrev pub unsatisfiable_in : Group → ℕ
unsatisfiable_in g = if head g == 1 then length g.members - 1 else 0

-- the unsatisfiable classes of the groups
abbrev pub unsatisfiable_total : List Group → ℕ
unsatisfiable_total gs = sum_by unsatisfiable_in gs

-- the direct superclasses of the groups that have neither owl:Thing nor owl:Nothing
abbrev pub link_total : List Group → ℕ
link_total gs = sum_by (λ (g : Group). length g.parents) (filter is_proper gs)

-- ---- the text

-- a word, a space, the number and a line feed
abbrev pub count_line : List ℕ → ℕ → List ℕ
count_line word number = word ++ 32 ∷ decimal number ++ 10 ∷ []

-- a line for each count
abbrev pub summary_text : Summary → List ℕ
summary_text counts =
    count_line (codes "names") counts.names
    ++ count_line (codes "groups") counts.groups
    ++ count_line (codes "unsatisfiable") counts.unsatisfiable
    ++ count_line (codes "links") counts.links
