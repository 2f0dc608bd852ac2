-- What a context owes to others.
use Rattle.std.specs.Prelude.{◌≡◌, ℕ, List, [], ◌∷◌}
use Rattle.cd_base.specs.Lists.{OneOf, SameSet}
use Rattle.cd_base.specs.Normal.{Under}
use Rattle.cd_base.specs.declared.normal.Normal.{Normal}
use Rattle.cd_base.specs.declared.normal.Triple.{Triple}
use Rattle.cd_clause.specs.declared.elem.Elem.{Elem}
use Rattle.cd_clause.specs.declared.elem.Elem.TheVariants.{Plain, Exist}
use Rattle.cd_clause.specs.Elements.{Eligible, IsCase}
use Rattle.cd_context.specs.declared.facts.Fact.TheVariants.{Link, Back, Sure, Dead}
use Rattle.cd_context.specs.declared.facts.Note.{Note}
use Rattle.cd_context.specs.State.{State, live_of}

-- another context has an existential to this one, of that role
abbrev pub IsLinked : State → List ℕ → ℕ → Type 0
IsLinked s h r = OneOf (record { key = h; role = r }) s.links

-- A context owes a link to the key of each existential that is eligible in a live clause. To each context that has an existential to it
-- it owes, for each live clause and each atom that is eligible in it and of use there by some axiom, a sure where the clause is that of
-- the atom alone, and else a back; and a dead where it has the empty clause.
pub data Owes (n : Normal) (s : State) (note : Note) : Type 0 where
  owes_link : (r : ℕ) (k : List ℕ) (c : List Elem) → OneOf c (live_of s) → Eligible n (Exist r k) c
      → note ≡ record { key = k; fact = Link s.key r } → Owes n s note
  owes_back : (h : List ℕ) (r : ℕ) (c : List Elem) (t : Triple) → IsLinked s h r
      → OneOf c (live_of s) → IsCase n t.atom c → OneOf t n.n3 → Under n.n5 r t.role
      → note ≡ record { key = h; fact = Back r s.key t.atom } → Owes n s note
  owes_sure : (h : List ℕ) (r : ℕ) (c : List Elem) (t : Triple) → IsLinked s h r
      → OneOf c (live_of s) → SameSet c (Plain t.atom ∷ []) → OneOf t n.n3 → Under n.n5 r t.role
      → note ≡ record { key = h; fact = Sure r s.key t.atom } → Owes n s note
  owes_dead : (h : List ℕ) (r : ℕ) → IsLinked s h r → OneOf [] (live_of s)
      → note ≡ record { key = h; fact = Dead r s.key } → Owes n s note
