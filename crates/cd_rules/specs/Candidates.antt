-- Which axioms the rule Con tries for an atom.
use Rattle.std.specs.Prelude.{ℕ, ◌<◌, ◌+◌, ◌↔◌, List, [], ◌∷◌, length}
use Rattle.cd_base.specs.Lists.{OneOf}
use Rattle.cd_base.specs.declared.normal.Conj.{Conj}
use Rattle.cd_index.specs.Index.{left_of}
use Rattle.cd_rules.specs.LookUps.{AreNumbers, filed_at}
use Rattle.cd_rules.specs.Steps.{IsWithoutOne}
use Rattle.cd_rules.specs.declared.partners.Partner.{Partner}
use Rattle.cd_rules.specs.Partners.{IsAtHand}

-- these number axioms, among them each axiom with the atom on the left whose other left atoms are at hand
pub record AreCandidates (axioms : List Conj) (partners : List Partner) (atom : ℕ)
    (numbers : List ℕ) : Type 0 where
  pub in_range : AreNumbers axioms numbers
  pub every : (k : ℕ) → k < length axioms → (taken : List ℕ)
      → IsWithoutOne atom (left_of axioms k) taken
      → ((b : ℕ) → OneOf b taken → IsAtHand partners atom b) → OneOf k numbers

-- these are the atoms at hand
abbrev pub AreAtHand : List Partner → ℕ → List ℕ → Type 0
AreAtHand partners atom atoms = (b : ℕ) → OneOf b atoms ↔ IsAtHand partners atom b

-- one of these axioms has another atom on the left too
abbrev pub HasWide : List Conj → List ℕ → Type 0
HasWide axioms numbers = (k : ℕ) × OneOf k numbers × (1 < length (left_of axioms k))

-- these number the axioms that are filed under one of the atoms and have this atom on the left
abbrev pub AreFiledWith : List Conj → List (List ℕ) → ℕ → List ℕ → ℕ → List ℕ → Type 0
AreFiledWith axioms filed number atoms atom numbers =
    (k : ℕ) → OneOf k numbers ↔ ((b : ℕ) × OneOf b atoms × OneOf k (filed_at filed number b)
    × OneOf atom (left_of axioms k))

-- how many axioms are filed under these atoms, each atom counted as often as it stands there
abbrev pub filed_count : List (List ℕ) → ℕ → List ℕ → ℕ
filed_count filed number [] = 0
filed_count filed number (b ∷ atoms) =
    length (filed_at filed number b) + filed_count filed number atoms
