-- Look-ups of any atom or role, also out of range.
use Rattle.std.specs.Prelude.{◌≡◌, ℕ, ◌<◌, ◌↔◌, cond, nat_lt, List, [], length, slice_index_or}
use Rattle.cd_base.specs.Lists.{OneOf}
use Rattle.cd_base.specs.declared.normal.Conj.{Conj}
use Rattle.cd_base.specs.declared.normal.Triple.{Triple}
use Rattle.cd_index.specs.Index.{left_of}

-- these are the axioms with this `atom`
abbrev pub AreAtAtom : List Triple → ℕ → List Triple → Type 0
AreAtAtom triples atom found = (t : Triple) → OneOf t found ↔ (OneOf t triples × (t.atom ≡ atom))

-- these number axioms
abbrev pub AreNumbers : List Conj → List ℕ → Type 0
AreNumbers axioms numbers = (k : ℕ) → OneOf k numbers → k < length axioms

-- each axiom with the atom on the left is numbered
abbrev pub HasAllWith : List Conj → ℕ → List ℕ → Type 0
HasAllWith axioms atom numbers = (k : ℕ) → k < length axioms → OneOf atom (left_of axioms k)
    → OneOf k numbers

-- the list that is filed under the atom, and none where the atom is out of range
abbrev pub filed_at : List (List ℕ) → ℕ → ℕ → List ℕ
filed_at filed atoms atom = cond (nat_lt atom atoms) (slice_index_or filed atom []) []
