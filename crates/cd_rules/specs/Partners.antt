-- Clauses by the atoms that are their greatest elements, and the rule Con with them.
use Rattle.std.specs.Prelude.{◌≡◌, ℕ, ◌<◌, ◌⊎◌, ◌↔◌, List, [], ◌∷◌, ◌++◌, length, map, slice_index_or}
use Rattle.cd_base.specs.Lists.{OneOf, SameSet}
use Rattle.cd_base.specs.declared.normal.Conj.{Conj}
use Rattle.cd_base.specs.declared.normal.Normal.{Normal}
use Rattle.cd_clause.specs.declared.elem.Elem.{Elem}
use Rattle.cd_clause.specs.declared.elem.Elem.TheVariants.{Plain}
use Rattle.cd_clause.specs.Elements.{Eligible, rest}
use Rattle.cd_rules.specs.declared.partners.Partner.{Partner}
use Rattle.cd_rules.specs.Among.{Among}
use Rattle.cd_rules.specs.Steps.{IsWithoutOne}
use Rattle.cd_rules.specs.Walks.{ByOne}

-- it has this number, and its atom is eligible in the clause of that number
abbrev pub IsPartner : Normal → List (List Elem) → ℕ → Partner → Type 0
IsPartner n clauses k p = (p.number ≡ k) × Eligible n (Plain p.atom) (slice_index_or clauses k [])

-- these are all of the clauses with these numbers that have an eligible atom, by number and with that atom
abbrev pub ArePartners : Normal → List (List Elem) → List ℕ → List Partner → Type 0
ArePartners n clauses choices partners =
    (p : Partner) → OneOf p partners
    ↔ (OneOf p.number choices × Eligible n (Plain p.atom) (slice_index_or clauses p.number []))

-- each has the number of a clause
abbrev pub AreNumbered : List (List Elem) → List Partner → Type 0
AreNumbered clauses partners = (p : Partner) → OneOf p partners → p.number < length clauses

-- b is the atom, or one of the partners has it
abbrev pub IsAtHand : List Partner → ℕ → ℕ → Type 0
IsAtHand partners atom b = (b ≡ atom) ⊎ ((p : Partner) × OneOf p partners × (p.atom ≡ b))

-- the rest of its clause beside its atom
abbrev pub rest_of : List (List Elem) → Partner → List Elem
rest_of clauses p = rest (Plain p.atom) (slice_index_or clauses p.number [])

-- `m` is the union of the rests of partners, one for each of these atoms
abbrev pub UnionOf : List (List Elem) → List Partner → List ℕ → List Elem → Type 0
UnionOf clauses partners [] m = m ≡ []
UnionOf clauses partners (a ∷ atoms) m = (p : Partner) × OneOf p partners × (p.atom ≡ a)
    × record {
      tail : List Elem;
      union : UnionOf clauses partners atoms tail;
      is : m ≡ rest_of clauses p ++ tail;
    }

-- d is `base` with the rests of partners, one for each of these atoms
abbrev pub IsUnion : List (List Elem) → List Partner → List ℕ → List Elem → List Elem → Type 0
IsUnion clauses partners atoms base d =
    (m : List Elem) × UnionOf clauses partners atoms m × SameSet d (base ++ m)

-- d is one clause with the elements of another
abbrev pub IsJoin : List Elem → List Elem → List Elem → Type 0
IsJoin others c d = SameSet d (c ++ others)

-- d is one of the clauses with the rest of this partner, if that has the atom
abbrev pub IsJoinBy : List (List Elem) → ℕ → List (List Elem) → Partner → List Elem → Type 0
IsJoinBy clauses a unions p d = (p.atom ≡ a) × ByOne (IsJoin (rest_of clauses p)) unions d

-- P holds of each of these clauses, and each clause of which it holds is among them
abbrev pub AreThose : (List Elem → Type 0) → List (List Elem) → Type 0
AreThose P found =
    ((d : List Elem) → OneOf d found → P d) × ((d : List Elem) → P d → Among d found)

-- Con from `base`, where these atoms are left, by an axiom with this right side
abbrev pub IsConFrom : List (List Elem) → List Partner → List ℕ → List Elem → List ℕ → List Elem
    → Type 0
IsConFrom clauses partners taken base right d =
    (m : List Elem) × UnionOf clauses partners taken m
    × SameSet d ((base ++ m) ++ map Plain right)

-- Con, for atom a by one axiom, with these partners
abbrev pub IsConWith : List (List Elem) → List Partner → Conj → ℕ → List Elem → List Elem → Type 0
IsConWith clauses partners x a others d =
    (taken : List ℕ) × IsWithoutOne a x.left taken
    × IsConFrom clauses partners taken others x.right d

-- the same by one of these axioms
abbrev pub IsConOf : List Conj → List (List Elem) → List Partner → ℕ → List Elem → List Elem
    → Type 0
IsConOf axioms clauses partners a others d =
    (x : Conj) × OneOf x axioms × IsConWith clauses partners x a others d
