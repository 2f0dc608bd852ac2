-- Which clauses can be of use beside a premise.
use Rattle.std.specs.Prelude.{◌≡◌, ℕ, ◌<◌, ◌⊎◌, List, length}
use Rattle.cd_base.specs.Lists.{OneOf, Within}
use Rattle.cd_base.specs.declared.normal.Normal.{Normal}
use Rattle.cd_base.specs.declared.normal.Triple.{Triple}
use Rattle.cd_clause.specs.Derivations.{Redundant}
use Rattle.cd_clause.specs.declared.elem.Elem.{Elem}
use Rattle.cd_clause.specs.declared.elem.Elem.TheVariants.{Plain, Exist}
use Rattle.cd_index.specs.Index.{left_of}
use Rattle.cd_rules.specs.Facts.{ToldFacts}
use Rattle.cd_rules.specs.LookUps.{filed_at}
use Rattle.cd_rules.specs.Steps.{IsWithoutOne}
use Rattle.cd_rules.specs.Uses.{FromClause}
use Rattle.cd_store.specs.LookUps.{HasElem, HasExistential}

-- the number is that of the premise, or of a clause that was taken up: it is live and doesn't wait
abbrev pub Stands : List ℕ → List ℕ → ℕ → ℕ → Type 0
Stands live waiting premise m = (m ≡ premise) ⊎ (OneOf m live × (OneOf m waiting → ⊥))

-- a clause with such a number has the element
abbrev pub IsHad : (ℕ → Type 0) → List (List Elem) → Elem → Type 0
IsHad Up clauses e = (m : ℕ) × Up m × HasElem clauses e m

-- By Con with this left side, of which each atom but one occurrence of `a` stands in some such clause: the clause has one of these.
abbrev pub IsBesideLeft : (ℕ → Type 0) → List (List Elem) → ℕ → List ℕ → ℕ → Type 0
IsBesideLeft Up clauses a left m =
    (taken : List ℕ) × IsWithoutOne a left taken
    × ((b : ℕ) → OneOf b taken → IsHad Up clauses (Plain b))
    × ((b : ℕ) × OneOf b taken × HasElem clauses (Plain b) m)

-- by Con with one of these axioms
abbrev pub IsBesideByOne : Normal → (ℕ → Type 0) → List (List Elem) → ℕ → List ℕ → ℕ → Type 0
IsBesideByOne n Up clauses a numbers m =
    (k : ℕ) × OneOf k numbers × IsBesideLeft Up clauses a (left_of n.n1 k) m

-- by Con with any axiom
abbrev pub IsBesideByCon : Normal → (ℕ → Type 0) → List (List Elem) → ℕ → ℕ → Type 0
IsBesideByCon n Up clauses a m =
    (k : ℕ) × (k < length n.n1) × IsBesideLeft Up clauses a (left_of n.n1 k) m

-- by Con with one of the axioms that are filed under an atom
abbrev pub IsBesideByFiled : Normal → List (List ℕ) → (ℕ → Type 0) → List (List Elem) → ℕ → ℕ → ℕ → Type 0
IsBesideByFiled n filed Up clauses a at m =
    (at < n.atoms) × IsBesideByOne n Up clauses a (filed_at filed n.atoms at) m

-- by All, where the premise has an atom with an axiom: the clause has an existential
abbrev pub IsBesideUniversal : Normal → List (List Elem) → ℕ → ℕ → Type 0
IsBesideUniversal n clauses a m =
    ((t : Triple) × OneOf t n.n4 × (t.atom ≡ a)) × HasExistential clauses m

-- by All, where the premise has an existential: the clause has an atom with an axiom
abbrev pub IsBesideExist : Normal → List (List Elem) → ℕ → Type 0
IsBesideExist n clauses m = (t : Triple) × OneOf t n.n4 × HasElem clauses (Plain t.atom) m

-- by All, where this atom has an axiom
abbrev pub IsBesideByUniversal : Normal → List (List Elem) → ℕ → ℕ → Type 0
IsBesideByUniversal n clauses a m =
    ((t : Triple) × OneOf t n.n4 × (t.atom ≡ a)) × HasElem clauses (Plain a) m

-- each atom of the stored clauses has its number among these
abbrev pub HasAllAtoms : List (List Elem) → List ℕ → Type 0
HasAllAtoms clauses numbers = (a n : ℕ) → HasElem clauses (Plain a) n → OneOf a numbers

-- the clause can be of use beside this element of a premise
abbrev pub IsBeside : Normal → (ℕ → Type 0) → List (List Elem) → Elem → ℕ → Type 0
IsBeside n Up clauses (Plain a) m = IsBesideByCon n Up clauses a m ⊎ IsBesideUniversal n clauses a m
IsBeside n Up clauses (Exist r k) m = IsBesideExist n clauses m

-- live numbers that don't wait
abbrev pub AreTakenUp : List ℕ → List ℕ → List ℕ → Type 0
AreTakenUp live waiting taken = Within taken live × ((k : ℕ) → OneOf k taken → OneOf k waiting → ⊥)

-- each conclusion from the premise and clauses that were taken up is redundant among these
abbrev pub HasConcluded : Normal → List ℕ → ToldFacts → List (List Elem) → List ℕ → List ℕ → ℕ
    → List (List Elem) → Type 0
HasConcluded n key told clauses live waiting premise out =
    (taken : List ℕ) → AreTakenUp live waiting taken → (d : List Elem)
    → FromClause n key clauses taken premise told d → Redundant out d

-- what can be concluded with the premise and clauses that were taken up can be concluded with it and these clauses
abbrev pub AreEnough : Normal → List (List Elem) → List ℕ → List ℕ → ℕ → List ℕ → Type 0
AreEnough n clauses live waiting premise numbers =
    (taken : List ℕ) → AreTakenUp live waiting taken
    → (key : List ℕ) (told : ToldFacts) (d : List Elem)
    → FromClause n key clauses taken premise told d
    → FromClause n key clauses numbers premise told d
