-- The generated document of n levels: its names, and its axioms with the classes and roles by number.
use Rattle.std.specs.Prelude.{◌≡◌, ℕ, ◌+◌, ◌*◌, ◌-◌, ◌==◌, if◌then◌else◌, List, [], ◌∷◌, ◌++◌, flat_map, codes, decimal}
use Rattle.std.specs.List.{range_with_len}
use Rattle.cd_meaning.specs.declared.expression.Axiom.{Axiom}
use Rattle.cd_meaning.specs.declared.expression.Axiom.TheVariants.{SubClass, Disjoint, SubRole}
use Rattle.cd_meaning.specs.declared.expression.Expr.TheVariants.{Name, Join, SomeOf}
use Rattle.cd_meaning.specs.Hierarchy.{name_of}
use Rattle.cd_meaning.specs.Iri.{thing, nothing}

-- ---- names

abbrev pub iri : List ℕ → List ℕ
iri word = codes "urn:trial:" ++ word

-- a letter and the number of a level in decimal
abbrev pub level_iri : List ℕ → ℕ → List ℕ
level_iri letter level = iri (letter ++ decimal level)

-- A, B, C and U of a level
abbrev pub level_classes : ℕ → List (List ℕ)
level_classes level = level_iri (codes "A") level ∷ level_iri (codes "B") level
    ∷ level_iri (codes "C") level ∷ level_iri (codes "U") level ∷ []

-- owl:Thing, owl:Nothing, D, E, and then the classes of levels 0 to n - 1
abbrev pub generated_classes : ℕ → List (List ℕ)
generated_classes n = thing ∷ nothing ∷ iri (codes "D") ∷ iri (codes "E")
    ∷ flat_map level_classes (range_with_len 0 n)

-- R and S
abbrev pub generated_roles : List (List ℕ)
generated_roles = iri (codes "R") ∷ iri (codes "S") ∷ []

-- ---- their numbers

abbrev pub class_d : ℕ
class_d = 2

abbrev pub class_e : ℕ
class_e = 3

abbrev pub class_a : ℕ → ℕ
class_a level = 4 * level + 4

abbrev pub class_b : ℕ → ℕ
class_b level = 4 * level + 5

abbrev pub class_c : ℕ → ℕ
class_c level = 4 * level + 6

abbrev pub class_u : ℕ → ℕ
class_u level = 4 * level + 7

abbrev pub role_r : ℕ
role_r = 0

abbrev pub role_s : ℕ
role_s = 1

-- the four numbers of a level are those of its names
pub record IsLevelNamed (classes : List (List ℕ)) (level : ℕ) : Type 0 where
  pub a : name_of classes (class_a level) ≡ level_iri (codes "A") level
  pub b : name_of classes (class_b level) ≡ level_iri (codes "B") level
  pub c : name_of classes (class_c level) ≡ level_iri (codes "C") level
  pub u : name_of classes (class_u level) ≡ level_iri (codes "U") level

-- ---- axioms

-- A is below the union of B and C, these are below D, and U is below A and disjoint with D
abbrev pub class_axioms : ℕ → List Axiom
class_axioms level =
    SubClass (Name (class_a level)) (Join (Name (class_b level) ∷ Name (class_c level) ∷ []))
    ∷ SubClass (Name (class_b level)) (Name class_d)
    ∷ SubClass (Name (class_c level)) (Name class_d)
    ∷ SubClass (Name (class_u level)) (Name (class_a level))
    ∷ Disjoint (Name (class_u level) ∷ Name class_d ∷ [])
    ∷ []

-- each A but that of level 0 has an R-edge to the A before it
abbrev pub edge_axioms : ℕ → List Axiom
edge_axioms level = if level == 0 then [] else SubClass (Name (class_a level))
    (SomeOf role_r (Name (class_a (level - 1)))) ∷ []

abbrev pub level_axioms : ℕ → List Axiom
level_axioms level = class_axioms level ++ edge_axioms level

-- R is below S, whatever has an S-edge to D is in E, and then the axioms of levels 0 to n - 1
abbrev pub generated_axioms : ℕ → List Axiom
generated_axioms n =
    SubRole role_r role_s ∷ SubClass (SomeOf role_s (Name class_d)) (Name class_e)
    ∷ flat_map level_axioms (range_with_len 0 n)
