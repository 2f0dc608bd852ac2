-- When a fact may come to a context, and what a context then keeps.
use Rattle.std.specs.Prelude.{ℕ, List, [], ◌∷◌, reverse}
use Rattle.cd_base.specs.Lists.{OneOf, HasNoRepeats}
use Rattle.cd_base.specs.declared.normal.Normal.{Normal}
use Rattle.cd_clause.specs.declared.elem.Elem.{Elem}
use Rattle.cd_clause.specs.declared.elem.Elem.TheVariants.{Exist}
use Rattle.cd_clause.specs.Derivations.{Derived, HasCase, HasDerived, HasSure, IsStart, Reachable, Redundant}
use Rattle.cd_rules.specs.Facts.{ToldFacts, ConcludesFrom}
use Rattle.cd_store.specs.Store.{IsStore}
use Rattle.cd_context.specs.declared.facts.Fact.{Fact}
use Rattle.cd_context.specs.declared.facts.Fact.TheVariants.{Start, Link, Back, Sure, Dead}
use Rattle.cd_context.specs.declared.facts.Note.{Note}
use Rattle.cd_context.specs.Owes.{Owes}
use Rattle.cd_context.specs.State.{State, live_of, told_of}

-- the fact is justified in the context of the key
abbrev pub Justified : Normal → List ℕ → Fact → Type 0
Justified n key Start = IsStart n key
Justified n key (Link h r) = Reachable n h × HasDerived n h (Exist r key)
Justified n key (Back r k a) =
    Reachable n key × HasDerived n key (Exist r k) × HasCase n k a
Justified n key (Sure r k a) =
    Reachable n key × HasDerived n key (Exist r k) × HasSure n k a
Justified n key (Dead r k) = Reachable n key × HasDerived n key (Exist r k) × Derived n k []

-- each clause is the conclusion of a rule from those after it and from these facts; the newest stands first
abbrev pub StoredInTurn : Normal → List ℕ → ToldFacts → List (List Elem) → Type 0
StoredInTurn n key told [] = Unit {0}
StoredInTurn n key told (c ∷ cs) =
    ConcludesFrom n key (λ d. OneOf d cs) told c × StoredInTurn n key told cs

-- each clause is the conclusion of a rule from clauses stored before it and from these facts
abbrev pub IsInTurn : Normal → List ℕ → ToldFacts → List (List Elem) → Type 0
IsInTurn n key told clauses = StoredInTurn n key told (reverse clauses)

-- what a context keeps at every moment, also after want of memory: it can be reached, each fact but `Start` is justified and stands once,
-- each clause is concluded from what was there before it, and none is covered by one stored before it
pub record IsContext (n : Normal) (s : State) : Type 0 where
  pub reachable : Reachable n s.key
  pub links : (h : List ℕ) (r : ℕ) → OneOf (record { key = h; role = r }) s.links
      → Justified n s.key (Link h r)
  pub backs : (r : ℕ) (k : List ℕ) (a : ℕ) → OneOf (record { role = r; key = k; atom = a }) s.backs
      → Justified n s.key (Back r k a)
  pub sures : (r : ℕ) (k : List ℕ) (a : ℕ) → OneOf (record { role = r; key = k; atom = a }) s.sures
      → Justified n s.key (Sure r k a)
  pub deads : (r : ℕ) (k : List ℕ) → OneOf (record { role = r; key = k }) s.deads
      → Justified n s.key (Dead r k)
  pub links_once : HasNoRepeats s.links
  pub backs_once : HasNoRepeats s.backs
  pub sures_once : HasNoRepeats s.sures
  pub deads_once : HasNoRepeats s.deads
  pub in_turn : IsInTurn n s.key (told_of s) s.clauses
  pub store : IsStore s.clauses s.live

-- each conclusion from its live clauses and its facts is redundant there
abbrev pub ClosedLocally : Normal → State → Type 0
ClosedLocally n s = (d : List Elem)
    → ConcludesFrom n s.key (λ c. OneOf c (live_of s)) (told_of s) d → Redundant (live_of s) d

-- what a context stores is derived
abbrev pub StoredDerived : Type 0
StoredDerived = (n : Normal) (s : State) → IsContext n s → (c : List Elem) → OneOf c s.clauses
    → Derived n s.key c

-- what a closed context owes goes to a key that can be reached, and is justified there
abbrev pub OwedJustified : Type 0
OwedJustified = (n : Normal) (s : State) → IsContext n s → ClosedLocally n s → (note : Note)
    → Owes n s note → Reachable n note.key × Justified n note.key note.fact
