-- The text of groups: how each step adds to it, and what it is for the groups of a relation.
use Rattle.std.proofs.Common.{◌≡◌, ℕ, ◌+◌, ◌<◌, Bool, List, [], ◌∷◌, ◌++◌, length, get_or, map, filter, flat_map, take, refl, sym, ap, ◌∙◌, append_assoc, arith}
use Rattle.std.specs.List.{Contains, join_with_byte}
use Rattle.std.specs.Prelude.{codes}
use Rattle.std.proofs.lemmas.List.{map_more, append-nil, get_or-map, get_or_read, length-map, length-take}
use Rattle.std.proofs.lemmas.List.Concat.{flat_map-append}
use Rattle.std.proofs.lemmas.List.Elements.{All-filter, All-weaker, All-contains_itself}
use Rattle.std.proofs.lemmas.List.Folds.{flat_map-map, map_fixed}
use Rattle.std.proofs.lemmas.Simd.{map-map}
use Rattle.cd_meaning.specs.Hierarchy.{representatives, members, is_parent, parents, proper}
use Rattle.cd_meaning.specs.Text.{ended, subclass_line, group_text, parents_text, text}
use Rattle.cd_taxonomy.specs.declared.groups.Group.{Group}
use Rattle.cd_taxonomy.specs.Groups.{group_number, group_at, groups}
use Rattle.cd_taxonomy.specs.Lines.{head, is_proper, no_group, parent_heads, lines_text}
use Rattle.cd_taxonomy.proofs.GroupNumbers.{number_stands}
use Rattle.cd_taxonomy.proofs.Lists.{filter-map}

-- ---- pieces with a byte between two

join_first : (b : ℕ) (ps : List (List ℕ)) (p : List ℕ) → length ps ≡ 0 → join_with_byte b (ps ++ p ∷ []) ≡ join_with_byte b ps ++ p
join_first b [] p e = refl
join_first b (q ∷ ps) p e = absurd (omega arith)

join_next : (b : ℕ) (ps : List (List ℕ)) (p : List ℕ) → 0 < length ps → join_with_byte b (ps ++ p ∷ []) ≡ join_with_byte b ps ++ (b ∷ p)
join_next b [] p h = absurd (omega arith)
join_next b (q ∷ []) p h = refl
join_next b (q ∷ r ∷ ps) p h = ap (λ (l : List ℕ). q ++ (b ∷ l)) (join_next b (r ∷ ps) p (omega arith)) ∙ sym (append_assoc q (b ∷ join_with_byte b (r ∷ ps)) (b ∷ p))

length_front : (i : ℕ) (f : ℕ → List ℕ) (cs : List ℕ) → i < length cs → length (map f (take i cs)) ≡ i
length_front i f cs h = simp (length-map, length-take) (omega arith)

-- the first class of a line, and a later one
pub operands_first : (f : ℕ → List ℕ) (cs : List ℕ) (i d : ℕ) → i < length cs → i ≡ 0
    → join_with_byte 32 (map f (take (i + 1) cs)) ≡ join_with_byte 32 (map f (take i cs)) ++ f (get_or cs i d)
operands_first f cs i d h z =
    ap (join_with_byte 32) (map_more f cs i d h) ∙ join_first 32 (map f (take i cs)) (f (get_or cs i d)) (length_front i f cs h ∙ z)

pub operands_next : (f : ℕ → List ℕ) (cs : List ℕ) (i d : ℕ) → i < length cs → 0 < i
    → join_with_byte 32 (map f (take (i + 1) cs)) ≡ join_with_byte 32 (map f (take i cs)) ++ (32 ∷ f (get_or cs i d))
operands_next f cs i d h z =
    ap (join_with_byte 32) (map_more f cs i d h) ∙ join_next 32 (map f (take i cs)) (f (get_or cs i d)) (omega (arith, length_front i f cs h))

-- one more line
lines_more : (line_of : ℕ → List ℕ) (f : ℕ → ℕ) (ps : List ℕ) (i d : ℕ) → i < length ps
    → flat_map line_of (map f (take (i + 1) ps)) ≡ flat_map line_of (map f (take i ps)) ++ line_of (f (get_or ps i d))
lines_more line_of f ps i d lt =
    ap (flat_map line_of) (map_more f ps i d lt) ∙ flat_map-append line_of (map f (take i ps)) (f (get_or ps i d) ∷ [])
    ∙ ap (λ (l : List ℕ). flat_map line_of (map f (take i ps)) ++ l) (append-nil (line_of (f (get_or ps i d))))

pub parents_more : (names : List (List ℕ)) (gs : List Group) (class : ℕ) (ps : List ℕ) (i above : ℕ) (g : Group) (start before after : List ℕ)
    → i < length ps → get_or ps i 0 < length gs → g ≡ get_or gs (get_or ps i 0) g → above ≡ head g
    → before ≡ start ++ parents_text names class (map (λ p. head (get_or gs p no_group)) (take i ps))
    → after ≡ before ++ ended (subclass_line names class above)
    → after ≡ start ++ parents_text names class (map (λ p. head (get_or gs p no_group)) (take (i + 1) ps))
parents_more names gs class ps i above g start before after lt in_groups read is so_far added =
    let f : ℕ → ℕ = λ p. head (get_or gs p no_group) in
    let line_of : ℕ → List ℕ = λ d. ended (subclass_line names class d) in
    let at : above ≡ f (get_or ps i 0) = is ∙ ap head (get_or_read gs (get_or ps i 0) g in_groups read no_group) in
    added ∙ ap (λ (l : List ℕ). l ++ line_of above) so_far ∙ append_assoc start (flat_map line_of (map f (take i ps))) (line_of above)
    ∙ ap (λ (l : List ℕ). start ++ l) (ap (λ (d : ℕ). flat_map line_of (map f (take i ps)) ++ line_of d) at ∙ sym (lines_more line_of f ps i 0 lt))

-- ---- the groups of a relation

module _ (names : List (List ℕ)) (below : ℕ → ℕ → Bool) where
  abbrev rs : List ℕ
  rs = representatives names below

  abbrev group : ℕ → Group
  group = group_at names below

  abbrev head_of : ℕ → ℕ
  head_of p = head (get_or (groups names below) p no_group)

  -- a group's number leads back to its representative
  number_head : (d : ℕ) → Contains rs d → head_of (group_number rs d) ≡ d
  number_head d h =
      let s = number_stands rs d h in
      ap head (get_or-map group rs (group_number rs d) 0 no_group s.0) ∙ s.1

  parents_back : (r : ℕ) → parent_heads (groups names below) (group r) ≡ parents names below r
  parents_back r =
      map-map head_of (group_number rs) (parents names below r)
      ∙ map_fixed (λ d. head_of (group_number rs d)) (parents names below r)
      (All-weaker (Contains rs) (λ d. head_of (group_number rs d) ≡ d) number_head (parents names below r)
      (All-filter (is_parent names below r) (Contains rs) rs (All-contains_itself rs)))

  abbrev links_of : Group → List ℕ
  links_of g = parents_text names (head g) (parent_heads (groups names below) g)

  links_at : (r : ℕ) → links_of (group r) ≡ parents_text names r (parents names below r)
  links_at r = ap (parents_text names r) (parents_back r)

  groups_text : flat_map (λ (g : Group). group_text names g.members) (groups names below) ≡ flat_map (λ r. group_text names (members names below r)) rs
  groups_text = flat_map-map (λ (g : Group). group_text names g.members) group rs

  links_text : flat_map links_of (filter is_proper (groups names below)) ≡ flat_map (λ r. parents_text names r (parents names below r)) (proper names below)
  links_text =
      ap (flat_map links_of) (filter-map group is_proper rs) ∙ flat_map-map links_of group (proper names below)
      ∙ ap (λ (f : ℕ → List ℕ). flat_map f (proper names below)) (λ i r. links_at r i)

  pub relation_lines : lines_text names (groups names below) ≡ text names below
  relation_lines =
      ap (λ (l : List ℕ). ended (codes "Ontology(") ++ l ++ flat_map links_of (filter is_proper (groups names below)) ++ ended (codes ")")) groups_text
      ∙ ap (λ (l : List ℕ). ended (codes "Ontology(") ++ flat_map (λ r. group_text names (members names below r)) rs ++ l ++ ended (codes ")")) links_text

-- so the text of groups that are those of a relation is the text of that relation
pub text_of_relation : (names : List (List ℕ)) (gs : List Group) (bytes : List ℕ) → bytes ≡ lines_text names gs
    → (below : ℕ → ℕ → Bool) → gs ≡ groups names below → bytes ≡ text names below
text_of_relation names gs bytes e below g = e ∙ ap (lines_text names) g ∙ relation_lines names below
