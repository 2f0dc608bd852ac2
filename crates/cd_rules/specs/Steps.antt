-- What each rule concludes for one eligible element of a premise. `others` is the rest of the premise beside that element.
use Rattle.std.specs.Prelude.{◌≡◌, ℕ, ◌⊎◌, List, [], ◌∷◌, ◌++◌, map}
use Rattle.cd_base.specs.Lists.{OneOf, SameSet}
use Rattle.cd_base.specs.Keys.{plain, negated, key_with}
use Rattle.cd_base.specs.Normal.{Under}
use Rattle.cd_base.specs.declared.normal.Normal.{Normal}
use Rattle.cd_base.specs.declared.normal.Conj.{Conj}
use Rattle.cd_base.specs.declared.normal.Triple.{Triple}
use Rattle.cd_clause.specs.declared.elem.Elem.{Elem}
use Rattle.cd_clause.specs.declared.elem.Elem.TheVariants.{Plain, Exist}
use Rattle.cd_clause.specs.Elements.{Eligible, rest}
use Rattle.cd_clause.specs.Rules.{Rests}
use Rattle.cd_rules.specs.declared.facts.BackFact.{BackFact}
use Rattle.cd_rules.specs.declared.facts.DeadFact.{DeadFact}
use Rattle.cd_rules.specs.declared.facts.SureFact.{SureFact}
use Rattle.cd_rules.specs.Facts.{IsBack, IsSure, IsDead, ToldFacts}

-- Init, for the atoms of a key
abbrev pub IsInit : List ℕ → List Elem → Type 0
IsInit key d = (a : ℕ) × OneOf (plain a) key × SameSet d (Plain a ∷ [])

-- Con, for an axiom without a left side
abbrev pub IsFree : Normal → List Elem → Type 0
IsFree n d = (x : Conj) × OneOf x n.n1 × (x.left ≡ []) × SameSet d (map Plain x.right)

-- Neg, for atom a
abbrev pub IsNeg : List ℕ → ℕ → List Elem → List Elem → Type 0
IsNeg key a others d = OneOf (negated a) key × SameSet d others

-- Ex, for atom a
abbrev pub IsEx : Normal → ℕ → List Elem → List Elem → Type 0
IsEx n a others d = (t : Triple) × OneOf t n.n2 × (t.atom ≡ a)
    × SameSet d (Exist t.role (plain t.other ∷ []) ∷ others)

-- a left side with one of its occurrences of an atom taken out
abbrev pub IsWithoutOne : ℕ → List ℕ → List ℕ → Type 0
IsWithoutOne a left taken = (before : List ℕ) × (after : List ℕ) × (left ≡ before ++ (a ∷ after))
    × (taken ≡ before ++ after)

-- Con, for atom a by one axiom, where the other atoms are eligible in clauses that are had
abbrev pub IsConBy : Normal → (List Elem → Type 0) → Conj → ℕ → List Elem → List Elem → Type 0
IsConBy n Has x a others d =
    (taken : List ℕ) × IsWithoutOne a x.left taken
    × ((m : List Elem) × Rests n Has taken m × SameSet d ((others ++ m) ++ map Plain x.right))

-- Con, for atom a by any axiom
abbrev pub IsCon : Normal → (List Elem → Type 0) → ℕ → List Elem → List Elem → Type 0
IsCon n Has a others d = (x : Conj) × OneOf x n.n1 × IsConBy n Has x a others d

-- All, for atom a with the existentials of clauses that are had
abbrev pub IsAllOfAtom : Normal → (List Elem → Type 0) → ℕ → List Elem → List Elem → Type 0
IsAllOfAtom n Has a others d =
    (t : Triple) × OneOf t n.n4 × (t.atom ≡ a)
    × ((c : List Elem) × Has c × ((r : ℕ) × (k : List ℕ) × Eligible n (Exist r k) c
    × Under n.n5 r t.role
    × SameSet d (Exist r (key_with (plain t.other) k) ∷ (rest (Exist r k) c ++ others))))

-- All, for an existential with the atoms of clauses that are had
abbrev pub IsAllOfExist : Normal → (List Elem → Type 0) → ℕ → List ℕ → List Elem → List Elem
    → Type 0
IsAllOfExist n Has r k others d =
    (t : Triple) × OneOf t n.n4 × Under n.n5 r t.role
    × ((b : List Elem) × Has b × Eligible n (Plain t.atom) b
    × SameSet d (Exist r (key_with (plain t.other) k) ∷ (others ++ rest (Plain t.atom) b)))

-- Back, for an existential and an atom of its key's context
abbrev pub IsBackOf : Normal → ℕ → List ℕ → ℕ → List Elem → List Elem → Type 0
IsBackOf n r k a others d =
    (t : Triple) × OneOf t n.n3 × (t.atom ≡ a) × Under n.n5 r t.role
    × SameSet d (Plain t.other ∷ Exist r (key_with (negated a) k) ∷ others)

-- Back, for an existential and these facts
abbrev pub IsBackFrom : Normal → List BackFact → ℕ → List ℕ → List Elem → List Elem → Type 0
IsBackFrom n backs r k others d = (a : ℕ) × IsBack backs r k a × IsBackOf n r k a others d

-- Sure, for an existential of this role and an atom of each that meets its key
abbrev pub IsSureOf : Normal → ℕ → ℕ → List Elem → List Elem → Type 0
IsSureOf n r a others d =
    (t : Triple) × OneOf t n.n3 × (t.atom ≡ a) × Under n.n5 r t.role
    × SameSet d (Plain t.other ∷ others)

-- Sure, for an existential and these facts
abbrev pub IsSureFrom : Normal → List SureFact → ℕ → List ℕ → List Elem → List Elem → Type 0
IsSureFrom n sures r k others d = (a : ℕ) × IsSure sures r k a × IsSureOf n r a others d

-- Dead, for an existential and these facts
abbrev pub IsDeadFrom : List DeadFact → ℕ → List ℕ → List Elem → List Elem → Type 0
IsDeadFrom deads r k others d = IsDead deads r k × SameSet d others

-- all rules for atom a
abbrev pub IsOfAtom : Normal → List ℕ → (List Elem → Type 0) → ℕ → List Elem → List Elem → Type 0
IsOfAtom n key Has a others d =
    IsNeg key a others d ⊎ (IsEx n a others d
    ⊎ (IsCon n Has a others d ⊎ IsAllOfAtom n Has a others d))

-- all rules for an existential
abbrev pub IsOfExist : Normal → (List Elem → Type 0) → ToldFacts → ℕ → List ℕ → List Elem
    → List Elem → Type 0
IsOfExist n Has facts r k others d =
    IsBackFrom n facts.backs r k others d
    ⊎ (IsSureFrom n facts.sures r k others d
    ⊎ (IsDeadFrom facts.deads r k others d ⊎ IsAllOfExist n Has r k others d))
