-- What the rules Back, Sure, Dead and All conclude by one axiom or fact, or with one clause: the steps of their walks.
use Rattle.std.specs.Prelude.{◌≡◌, ℕ, List, ◌∷◌, ◌++◌}
use Rattle.cd_base.specs.Lists.{OneOf, SameSet}
use Rattle.cd_base.specs.Keys.{plain, negated, key_with}
use Rattle.cd_base.specs.Normal.{Under}
use Rattle.cd_base.specs.declared.normal.Normal.{Normal}
use Rattle.cd_base.specs.declared.normal.Triple.{Triple}
use Rattle.cd_clause.specs.declared.elem.Elem.{Elem}
use Rattle.cd_clause.specs.declared.elem.Elem.TheVariants.{Plain, Exist}
use Rattle.cd_clause.specs.Elements.{Eligible, rest}
use Rattle.cd_rules.specs.declared.facts.BackFact.{BackFact}
use Rattle.cd_rules.specs.declared.facts.DeadFact.{DeadFact}
use Rattle.cd_rules.specs.declared.facts.SureFact.{SureFact}
use Rattle.cd_rules.specs.Steps.{IsBackOf, IsSureOf}

-- d is a conclusion by one of these
abbrev pub ByOne : {X : Type 0} → (X → List Elem → Type 0) → List X → List Elem → Type 0
ByOne {X} Q items d = (x : X) × OneOf x items × Q x d

-- Back, by one axiom
abbrev pub IsBackBy : Normal → ℕ → List ℕ → ℕ → List Elem → Triple → List Elem → Type 0
IsBackBy n r k a others t d =
    Under n.n5 r t.role × SameSet d (Plain t.other ∷ Exist r (key_with (negated a) k) ∷ others)

-- Back, by one fact, if it is of this role and key
abbrev pub IsBackByFact : Normal → ℕ → List ℕ → List Elem → BackFact → List Elem → Type 0
IsBackByFact n r k others f d = (f.role ≡ r) × (f.key ≡ k) × IsBackOf n r k f.atom others d

-- Back, for a fact with one clause
abbrev pub IsBackWith : Normal → BackFact → List Elem → List Elem → Type 0
IsBackWith n f c d = Eligible n (Exist f.role f.key) c
    × IsBackOf n f.role f.key f.atom (rest (Exist f.role f.key) c) d

-- Sure, by one axiom
abbrev pub IsSureBy : Normal → ℕ → List Elem → Triple → List Elem → Type 0
IsSureBy n r others t d = Under n.n5 r t.role × SameSet d (Plain t.other ∷ others)

-- Sure, by one fact, if it is of this role and key
abbrev pub IsSureByFact : Normal → ℕ → List ℕ → List Elem → SureFact → List Elem → Type 0
IsSureByFact n r k others f d = (f.role ≡ r) × (f.key ≡ k) × IsSureOf n r f.atom others d

-- Sure, for a fact with one clause
abbrev pub IsSureWith : Normal → SureFact → List Elem → List Elem → Type 0
IsSureWith n f c d = Eligible n (Exist f.role f.key) c
    × IsSureOf n f.role f.atom (rest (Exist f.role f.key) c) d

-- Dead, for a fact with one clause
abbrev pub IsDeadWith : Normal → DeadFact → List Elem → List Elem → Type 0
IsDeadWith n f c d = Eligible n (Exist f.role f.key) c × SameSet d (rest (Exist f.role f.key) c)

-- All, by one axiom
abbrev pub IsAllBy : Normal → ℕ → List ℕ → List Elem → List Elem → Triple → List Elem → Type 0
IsAllBy n r k left right t d =
    Under n.n5 r t.role × SameSet d (Exist r (key_with (plain t.other) k) ∷ (left ++ right))

-- All, by these axioms with a clause whose eligible element is an existential
abbrev pub IsAllWithExist : Normal → List Triple → List Elem → List Elem → List Elem → Type 0
IsAllWithExist n triples others c d =
    (r : ℕ) × (k : List ℕ) × Eligible n (Exist r k) c
    × ByOne (IsAllBy n r k (rest (Exist r k) c) others) triples d

-- All, for an existential with a clause whose eligible element is an atom
abbrev pub IsAllWithAtom : Normal → ℕ → List ℕ → List Elem → List Elem → List Elem → Type 0
IsAllWithAtom n r k others c d =
    (t : Triple) × OneOf t n.n4 × Eligible n (Plain t.atom) c
    × IsAllBy n r k others (rest (Plain t.atom) c) t d
