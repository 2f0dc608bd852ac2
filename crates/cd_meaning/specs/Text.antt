-- The text of a taxonomy: an ontology document with the lines of sections 9.1.1 and 9.1.2 of the Structural Specification,
-- its names as the full IRIs of section 2.4.
use Rattle.std.specs.Prelude.{ℕ, Bool, if◌then◌else◌, nat_lt, List, [], ◌∷◌, ◌++◌, length, map, flat_map, codes}
use Rattle.std.specs.List.{join_with_byte}
use Rattle.cd_meaning.specs.Hierarchy.{name_of, representatives, members, parents, proper}

-- `<`, the class's name and `>`
abbrev pub full_iri : List (List ℕ) → ℕ → List ℕ
full_iri names c = 60 ∷ name_of names c ++ 62 ∷ []

-- a word, `(`, the classes with a space between two, and `)`
abbrev pub line : List (List ℕ) → List ℕ → List ℕ → List ℕ
line names word operands = word ++ 40 ∷ join_with_byte 32 (map (full_iri names) operands) ++ 41 ∷ []

abbrev pub equivalent_line : List (List ℕ) → List ℕ → List ℕ
equivalent_line names group = line names (codes "EquivalentClasses") group

abbrev pub subclass_line : List (List ℕ) → ℕ → ℕ → List ℕ
subclass_line names c d = line names (codes "SubClassOf") (c ∷ d ∷ [])

-- the line with its line feed
abbrev pub ended : List ℕ → List ℕ
ended bytes = bytes ++ 10 ∷ []

-- the line of a group of two or more
abbrev pub group_text : List (List ℕ) → List ℕ → List ℕ
group_text names group = if nat_lt 1 (length group) then ended (equivalent_line names group) else []

-- a line for each direct superclass
abbrev pub parents_text : List (List ℕ) → ℕ → List ℕ → List ℕ
parents_text names c above = flat_map (λ d. ended (subclass_line names c d)) above

-- the text of a relation: the groups, then the direct superclasses of those with neither owl:Thing nor owl:Nothing
abbrev pub text : List (List ℕ) → (ℕ → ℕ → Bool) → List ℕ
text names below =
    ended (codes "Ontology(")
    ++ flat_map (λ r. group_text names (members names below r)) (representatives names below)
    ++ flat_map (λ r. parents_text names r (parents names below r)) (proper names below)
    ++ ended (codes ")")
