-- Normal axioms by atom.
use Rattle.std.specs.Prelude.{◌≡◌, ◌≢◌, ℕ, ◌-◌, ◌<◌, Bool, not, nat_lt, ◌&&◌, ◌==◌, IsTrue, List, [], length, map, filter, slice_index_or}
use Rattle.std.specs.List.{list_any, range_with_len}
use Rattle.cd_base.specs.declared.normal.Conj.{Conj}
use Rattle.cd_base.specs.declared.normal.Normal.{Normal}
use Rattle.cd_base.specs.declared.normal.Triple.{Triple}
use Rattle.cd_index.specs.Closure.{IsClosureOf}
use Rattle.cd_index.specs.Lists.{AreLists}

-- the left side of the axiom with this number
abbrev pub left_of : List Conj → ℕ → List ℕ
left_of axioms k = slice_index_or (map (λ (c : Conj). c.left) axioms) k []

-- the atom is one of these
abbrev pub has : ℕ → List ℕ → Bool
has atom atoms = list_any (λ a. a == atom) atoms

-- nothing stands in the left side of axiom k
abbrev pub is_free : List Conj → ℕ → Bool
is_free axioms k = length (left_of axioms k) == 0

-- the numbers of the axioms that pass a test, ascending
abbrev pub numbers_where : List Conj → (ℕ → Bool) → List ℕ
numbers_where axioms test = filter test (range_with_len 0 (length axioms))

-- the numbers of the axioms with an empty left side
abbrev pub free_numbers : List Conj → List ℕ
free_numbers axioms = numbers_where axioms (is_free axioms)

-- the numbers of the axioms with this atom in the left side
abbrev pub numbers_with : List Conj → ℕ → List ℕ
numbers_with axioms atom = numbers_where axioms (λ k. has atom (left_of axioms k))

-- the number is the last of these
abbrev pub ends_with : List ℕ → ℕ → Bool
ends_with numbers n = nat_lt 0 (length numbers) && slice_index_or numbers (length numbers - 1) 0
    == n

-- those with this `atom`
abbrev pub at_atom : List Triple → ℕ → List Triple
at_atom triples atom = filter (λ (t : Triple). t.atom == atom) triples

-- axiom k has a left side, and is filed under this atom by the choice
abbrev pub is_filed : List Conj → (ℕ → ℕ) → ℕ → ℕ → Bool
is_filed axioms chosen atom k = not (is_free axioms k) && chosen k == atom

-- the lists file each axiom with a left side under the one atom that is chosen from it
pub record IsFiling (axioms : List Conj) (atoms : ℕ) (filed : List (List ℕ)) : Type 0 where
  pub chosen : ℕ → ℕ
  pub stands : (k : ℕ) → k < length axioms → left_of axioms k ≢ []
      → IsTrue (has (chosen k) (left_of axioms k))
  pub exact : AreLists atoms filed (λ atom. numbers_where axioms (is_filed axioms chosen atom))

-- An index as contracts see it.
pub record Indexed : Type 0 where
  -- what is indexed
  pub normal : Normal
  -- for each atom the numbers of the axioms filed under it
  pub filed : List (List ℕ)

-- these are the lists of the axioms
pub record IsIndexOf (normal : Normal) (above : List (List ℕ)) (free : List ℕ)
    (with_left filed : List (List ℕ)) (gives backs alls : List (List Triple)) : Type 0 where
  pub under : IsClosureOf above normal.roles normal.n5
  pub empty_left : free ≡ free_numbers normal.n1
  pub left : AreLists normal.atoms with_left (numbers_with normal.n1)
  pub filing : IsFiling normal.n1 normal.atoms filed
  pub given : AreLists normal.atoms gives (at_atom normal.n2)
  pub backed : AreLists normal.atoms backs (at_atom normal.n3)
  pub all : AreLists normal.atoms alls (at_atom normal.n4)
