-- Derivations, what can be reached, and what a list of clauses has of one clause.
use Rattle.std.specs.Prelude.{◌≡◌, ℕ, true, List, [], ◌∷◌}
use Rattle.cd_base.specs.Lists.{OneOf, SameSet}
use Rattle.cd_base.specs.Keys.{plain, negated, key_with, is_named}
use Rattle.cd_base.specs.declared.normal.Normal.{Normal}
use Rattle.cd_clause.specs.declared.elem.Elem.{Elem}
use Rattle.cd_clause.specs.declared.elem.Elem.TheVariants.{Plain, Exist}
use Rattle.cd_clause.specs.Covering.{Covers}
use Rattle.cd_clause.specs.Elements.{Eligible, IsCase}
use Rattle.cd_clause.specs.Rules.{Concludes, Told, told_by}

-- a clause in the context of a key
pub record Entry : Type 0 where
  pub key : List ℕ
  pub clause : List Elem

-- the clause is listed for the context of the key
abbrev pub Listed : List Entry → List ℕ → List Elem → Type 0
Listed e k c = OneOf (record { key = k; clause = c }) e

-- a list in which each clause is the conclusion of a rule from the entries after it, so the newest stands first
abbrev pub Derivation : Normal → List Entry → Type 0
Derivation n [] = Unit {0}
Derivation n (p ∷ e) =
    Concludes n p.key (Listed e p.key) (told_by n (Listed e)) p.clause × Derivation n e

-- a derivation has the clause in the context of the key
pub record Derived (n : Normal) (key : List ℕ) (clause : List Elem) : Type 0 where
  pub entries : List Entry
  pub derivation : Derivation n entries
  pub listed : Listed entries key clause

-- the key of an atom, and of others that are negated
abbrev pub start_key : ℕ → List ℕ → List ℕ
start_key a [] = plain a ∷ []
start_key a (b ∷ bs) = key_with (negated b) (start_key a bs)

-- some clause derived in the context of the key has the atom as its greatest element, and others
abbrev pub HasCase : Normal → List ℕ → ℕ → Type 0
HasCase n k a = (c : List Elem) × Derived n k c × IsCase n a c

-- whether each member of a is in b may be left open by the context of a alone, and so be asked for: b is named, and a case there
abbrev pub MayBeAsked : Normal → ℕ → ℕ → Type 0
MayBeAsked n a b = (is_named n b ≡ true) × HasCase n (plain a ∷ []) b

-- the key is that of a named atom and of negated ones that may be asked for, with which a run may start
pub record IsStart (n : Normal) (key : List ℕ) : Type 0 where
  pub atom : ℕ
  pub others : List ℕ
  pub named : is_named n atom ≡ true
  pub asked : (b : ℕ) → OneOf b others → MayBeAsked n atom b
  pub is : key ≡ start_key atom others

-- a clause that is there covers this one
abbrev pub Redundant : List (List Elem) → List Elem → Type 0
Redundant live d = (c : List Elem) × OneOf c live × Covers c d

-- nothing was told by other contexts
abbrev pub told_nothing : Told
told_nothing = record { back = λ r k a. ⊥; sure = λ r k a. ⊥; dead = λ r k. ⊥ }

-- clauses that are derived in the context of the key, closed under what its rules conclude by themselves, and none of which covers another
pub record IsClosedByItself (n : Normal) (key : List ℕ) (clauses : List (List Elem)) : Type 0 where
  pub derived : (c : List Elem) → OneOf c clauses → Derived n key c
  pub closed : (d : List Elem) → Concludes n key (λ c. OneOf c clauses) told_nothing d
      → Redundant clauses d
  pub apart : (c d : List Elem) → OneOf c clauses → OneOf d clauses → Covers c d → c ≡ d

-- The key may be started, or stands in an eligible existential of such clauses of a key that can be reached. The empty clause covers all, so where
-- it is among these they are no others, and nothing is reached by them.
pub data Reachable (n : Normal) : List ℕ → Type 0 where
  from_start : {k : List ℕ} → IsStart n k → Reachable n k
  from_exist : {k : List ℕ} (h : List ℕ) (clauses : List (List Elem)) (c : List Elem) (r : ℕ)
      → Reachable n h → IsClosedByItself n h clauses → OneOf c clauses → Eligible n (Exist r k) c
      → Reachable n k

-- some clause derived in the context of the key has the element, eligible
abbrev pub HasDerived : Normal → List ℕ → Elem → Type 0
HasDerived n k e = (c : List Elem) × Derived n k c × Eligible n e c

-- the clause of the atom alone is derived in the context of the key
abbrev pub HasSure : Normal → List ℕ → ℕ → Type 0
HasSure n k a = (c : List Elem) × Derived n k c × SameSet c (Plain a ∷ [])

-- one of the live clauses is that of the atom alone
abbrev pub IsSingle : List (List Elem) → ℕ → Type 0
IsSingle live b = (c : List Elem) × OneOf c live × SameSet c (Plain b ∷ [])
