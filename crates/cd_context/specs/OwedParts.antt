-- What one clause, one of its elements or one link adds to what a context owes. `own` is the key of the context.
use Rattle.std.specs.Prelude.{◌≡◌, ℕ, ◌≤◌, ◌⊎◌, ◌↔◌, Bool, true, false, List, [], ◌∷◌}
use Rattle.cd_base.specs.Lists.{OneOf, SameSet}
use Rattle.cd_base.specs.Normal.{Under}
use Rattle.cd_base.specs.declared.normal.Normal.{Normal}
use Rattle.cd_base.specs.declared.normal.Triple.{Triple}
use Rattle.cd_clause.specs.declared.elem.Elem.{Elem}
use Rattle.cd_clause.specs.declared.elem.Elem.TheVariants.{Plain, Exist}
use Rattle.cd_clause.specs.Elements.{Eligible}
use Rattle.cd_context.specs.declared.facts.Fact.{Fact}
use Rattle.cd_context.specs.declared.facts.Fact.TheVariants.{Link, Back, Sure, Dead}
use Rattle.cd_context.specs.declared.facts.LinkFact.{LinkFact}
use Rattle.cd_context.specs.declared.facts.Note.{Note}

-- these are the numbers that are at least `least`
abbrev pub AreFrom : ℕ → List ℕ → List ℕ → Type 0
AreFrom least numbers found = (m : ℕ) → OneOf m found ↔ (OneOf m numbers × (least ≤ m))

-- the role is under that of one of these axioms
abbrev pub IsUnderOne : Normal → List Triple → ℕ → Type 0
IsUnderOne n axioms r = (t : Triple) × OneOf t axioms × Under n.n5 r t.role

-- some axiom makes the atom of use to a context that has an edge of this role to it
abbrev pub IsOfUse : Normal → ℕ → ℕ → Type 0
IsOfUse n a r = (t : Triple) × OneOf t n.n3 × (t.atom ≡ a) × Under n.n5 r t.role

-- a link to the context of an existential
abbrev pub IsLinkNote : List ℕ → ℕ → List ℕ → Note → Type 0
IsLinkNote own r k note = note ≡ record { key = k; fact = Link own r }

-- whether the clause is that of the atom alone
abbrev pub IsAlone : List Elem → ℕ → Bool → Type 0
IsAlone c a alone = (alone ≡ true) ↔ SameSet c (Plain a ∷ [])

-- what is told of an atom that is eligible in a clause: a sure where it is alone there, and else a back
abbrev pub atom_fact : Bool → ℕ → List ℕ → ℕ → Fact
atom_fact true r own a = Sure r own a
atom_fact false r own a = Back r own a

-- this fact to the context that has an existential to this one
abbrev pub IsAtomNote : List ℕ → ℕ → Bool → LinkFact → Note → Type 0
IsAtomNote own a alone f note = note ≡ record { key = f.key; fact = atom_fact alone f.role own a }

-- a dead to the context that has an existential to this one
abbrev pub IsDeadNote : List ℕ → LinkFact → Note → Type 0
IsDeadNote own f note = note ≡ record { key = f.key; fact = Dead f.role own }

-- the fact of an atom, where it is of use there
abbrev pub IsUsefulNote : Normal → List ℕ → ℕ → Bool → LinkFact → Note → Type 0
IsUsefulNote n own a alone f note = IsOfUse n a f.role × IsAtomNote own a alone f note

-- the fact of an atom of the clause, where it is eligible there, to this link
abbrev pub IsAtomTold : Normal → List ℕ → List Elem → ℕ → LinkFact → Note → Type 0
IsAtomTold n own c a f note =
    Eligible n (Plain a) c × ((alone : Bool) × IsAlone c a alone × IsUsefulNote n own a alone f note)

-- the link for an eligible existential of the clause
abbrev pub IsLinkOf : Normal → List ℕ → List Elem → Note → Type 0
IsLinkOf n own c note = (r : ℕ) × (k : List ℕ) × Eligible n (Exist r k) c × IsLinkNote own r k note

-- the fact of an eligible atom of the clause, or the dead for an empty one, to this link
abbrev pub IsToldTo : Normal → List ℕ → List Elem → LinkFact → Note → Type 0
IsToldTo n own c f note =
    ((c ≡ []) × IsDeadNote own f note) ⊎ ((a : ℕ) × IsAtomTold n own c a f note)

-- the same to one of these links
abbrev pub IsToldBy : Normal → List ℕ → List LinkFact → List Elem → Note → Type 0
IsToldBy n own links c note = (f : LinkFact) × OneOf f links × IsToldTo n own c f note

-- what the clause owes
abbrev pub IsOwedBy : Normal → List ℕ → List LinkFact → List Elem → Note → Type 0
IsOwedBy n own links c note = IsLinkOf n own c note ⊎ IsToldBy n own links c note
