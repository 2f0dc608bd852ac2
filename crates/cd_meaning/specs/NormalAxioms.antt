-- Normal axioms, and when they are true.
use Rattle.std.specs.Prelude.{◌≡◌, ℕ, ◌<◌, ◌&&◌, ◌==◌, Bool, true, List}
use Rattle.std.specs.List.{list_all, list_any}
use Rattle.cd_meaning.specs.declared.interpretation.Interpretation.{Interpretation}
use Rattle.cd_meaning.specs.Truth.{has_edge}
use Rattle.cd_base.specs.declared.normal.Normal.{Normal}
use Rattle.cd_base.specs.declared.normal.Conj.{Conj}
use Rattle.cd_base.specs.declared.normal.Triple.{Triple}
use Rattle.cd_base.specs.declared.normal.RolePair.{RolePair}
use Rattle.cd_base.specs.Lists.{OneOf}

-- one normal axiom, of one of the five forms
pub data NormalAxiom : Type 0 where
  -- what is in every atom on the left is in some atom on the right
  n1 : Conj → NormalAxiom
  -- every element of the first atom has an edge to one of the second
  n2 : Triple → NormalAxiom
  -- every element with an edge to one of the first atom is in the second
  n3 : Triple → NormalAxiom
  -- every edge from an element of the first atom goes to one of the second
  n4 : Triple → NormalAxiom
  -- every edge of the lower role is one of the higher
  n5 : RolePair → NormalAxiom

-- the axiom is one of these normal axioms
abbrev pub HasNormal : Normal → NormalAxiom → Type 0
HasNormal n (n1 c) = OneOf c n.n1
HasNormal n (n2 t) = OneOf t n.n2
HasNormal n (n3 t) = OneOf t n.n3
HasNormal n (n4 t) = OneOf t n.n4
HasNormal n (n5 p) = OneOf p n.n5

-- the element is listed in the atom
abbrev pub in_atom : Interpretation → ℕ → ℕ → Bool
in_atom i a x = list_any (λ m. m.class == a && m.element == x) i.classes

-- the axiom is true in the interpretation
abbrev pub HoldsNormal : Interpretation → NormalAxiom → Type 0
HoldsNormal i (n1 c) = (x : ℕ) → x < i.size → list_all (λ a. in_atom i a x) c.left ≡ true
    → list_any (λ a. in_atom i a x) c.right ≡ true
HoldsNormal i (n2 t) = (x : ℕ) → x < i.size → in_atom i t.atom x ≡ true
    → (y : ℕ) × (has_edge i t.role x y ≡ true) × (in_atom i t.other y ≡ true)
HoldsNormal i (n3 t) = (x y : ℕ) → has_edge i t.role x y ≡ true → in_atom i t.atom y ≡ true
    → in_atom i t.other x ≡ true
HoldsNormal i (n4 t) = (x y : ℕ) → has_edge i t.role x y ≡ true → in_atom i t.atom x ≡ true
    → in_atom i t.other y ≡ true
HoldsNormal i (n5 p) = (x y : ℕ) → has_edge i p.lower x y ≡ true → has_edge i p.higher x y ≡ true

-- each of the axioms is true in the interpretation
abbrev pub AllHold : Interpretation → List NormalAxiom → Type 0
AllHold i axs = (a : NormalAxiom) → OneOf a axs → HoldsNormal i a

-- the interpretation is a model of these normal axioms
abbrev pub IsNormalModel : Normal → Interpretation → Type 0
IsNormalModel n i = (a : NormalAxiom) → HasNormal n a → HoldsNormal i a

-- the axiom that what is in every atom on the left is in some atom on the right
abbrev pub implies : List ℕ → List ℕ → NormalAxiom
implies left right = n1 (record { left = left; right = right })

-- two atoms and a role
abbrev pub triple : ℕ → ℕ → ℕ → Triple
triple a r b = record { atom = a; role = r; other = b }
