-- The canonical interpretation of saturated contexts.
use Rattle.std.specs.Prelude.{◌≡◌, ℕ, zero, suc, ◌<◌, ◌||◌, Bool, true, false, cond, List, [], ◌∷◌, length}
use Rattle.cd_base.specs.Lists.{OneOf, collect}
use Rattle.cd_base.specs.declared.normal.Normal.{Normal}
use Rattle.cd_base.specs.declared.normal.Triple.{Triple}
use Rattle.cd_base.specs.declared.normal.RolePair.{RolePair}
use Rattle.cd_base.specs.Normal.{Under}
use Rattle.cd_meaning.specs.declared.interpretation.Member.{Member as Pair}
use Rattle.cd_meaning.specs.declared.interpretation.Edge.{Edge}
use Rattle.cd_meaning.specs.declared.interpretation.Interpretation.{Interpretation}
use Rattle.cd_meaning.specs.NormalAxioms.{IsNormalModel}
use Rattle.cd_clause.specs.Covering.{is_as_strong}
use Rattle.cd_clause.specs.Dictionary.{is_at_most, same_numbers}
use Rattle.cd_clause.specs.declared.elem.Elem.{Elem}
use Rattle.cd_clause.specs.declared.elem.Elem.TheVariants.{Plain, Exist}
use Rattle.cd_clause.specs.Elements.{rank}
use Rattle.cd_model.specs.Saturated.{Saturated}
use Rattle.cd_model.specs.Meaning.{IsIn, Meets}

-- the greatest of an element and others
abbrev pub greatest_from : Normal → Elem → List Elem → Elem
greatest_from n e [] = e
greatest_from n e (f ∷ fs) = greatest_from n (cond (is_at_most (rank n e) (rank n f)) f e) fs

-- the greatest element of a clause
abbrev pub greatest : Normal → List Elem → Elem
greatest n [] = Plain 0
greatest n (e ∷ es) = greatest_from n e es

-- puts a clause into a list that goes upwards by the greatest elements
abbrev pub insert : Normal → List Elem → List (List Elem) → List (List Elem)
insert n c [] = c ∷ []
insert n c (d ∷ ds) =
    cond (is_at_most (rank n (greatest n c)) (rank n (greatest n d))) (c ∷ d ∷ ds)
    (d ∷ insert n c ds)

-- the clauses, upwards by their greatest elements
abbrev pub sort : Normal → List (List Elem) → List (List Elem)
sort n [] = []
sort n (c ∷ cs) = insert n c (sort n cs)

-- whether one of these is at least as strong as the element
abbrev pub is_satisfied : List Elem → Elem → Bool
is_satisfied [] e = false
is_satisfied (g ∷ gs) e = is_as_strong g e || is_satisfied gs e

-- whether one of the clause's elements is satisfied
abbrev pub has_satisfied : List Elem → List Elem → Bool
has_satisfied chosen [] = false
has_satisfied chosen (e ∷ es) = is_satisfied chosen e || has_satisfied chosen es

-- the clauses are gone through upwards: where none of a clause's elements is satisfied yet, its greatest is chosen
abbrev pub choose : Normal → List Elem → List (List Elem) → List Elem
choose n chosen [] = chosen
choose n chosen (c ∷ cs) =
    cond (has_satisfied chosen c) (choose n chosen cs)
    (choose n (greatest n c ∷ chosen) cs)

-- the elements chosen in a context
unfoldable pub chosen : Normal → List (List Elem) → List Elem
chosen n live = choose n [] (sort n live)

-- whether one of the clauses is empty
abbrev pub has_empty : List (List Elem) → Bool
has_empty [] = false
has_empty ([] ∷ cs) = true
has_empty ((e ∷ es) ∷ cs) = has_empty cs

-- an element of the interpretation, and the context that it stands for
pub record Element : Type 0 where
  pub number : ℕ
  pub key : List ℕ

-- the elements: the keys whose contexts have no empty clause, numbered from `from`
abbrev pub elements : (List ℕ → List (List Elem)) → ℕ → List (List ℕ) → List Element
elements live from [] = []
elements live from (k ∷ ks) =
    cond (has_empty (live k)) (elements live from ks)
    (record { number = from; key = k } ∷ elements live (suc from) ks)

-- the numbers below this one
abbrev pub numbers_below : ℕ → List ℕ
numbers_below zero = []
numbers_below (suc m) = m ∷ numbers_below m

-- the memberships of element x, for its chosen atoms
abbrev pub atoms_at : ℕ → List Elem → List Pair
atoms_at x [] = []
atoms_at x (Plain a ∷ es) = record { class = a; element = x } ∷ atoms_at x es
atoms_at x (Exist r k ∷ es) = atoms_at x es

-- the edges from x for one chosen existential
abbrev pub edges_by : (ℕ → ℕ → Bool) → ℕ → List Element → ℕ → Elem → List Edge
edges_by below roles all x (Plain a) = []
edges_by below roles all x (Exist s k) =
    collect (λ (y : Element). cond (same_numbers k y.key)
    (collect (λ (r : ℕ). cond (below s r) (record { role = r; source = x; target = y.number }
    ∷ []) []) (numbers_below roles))
    []) all

-- how many elements, the members of atoms and the edges of roles, each a list
pub record Listing : Type 0 where
  pub size : ℕ
  pub members : List Pair
  pub edges : List Edge

-- The elements are the contexts without the empty clause. An element is in an atom that is chosen in its context. It has an edge of r to
-- the context of K where, for some s under r, `some s.K` is chosen.
unfoldable pub canonical : Normal → (ℕ → ℕ → Bool) → List (List ℕ) → (List ℕ → List (List Elem))
    → Listing
canonical n below keys live =
    let all : List Element = elements live 0 keys in
    record {
      size = length all;
      members = collect (λ (x : Element). atoms_at x.number (chosen n (live x.key))) all;
      edges = collect (λ (x : Element). collect
          (edges_by below n.roles all x.number)
          (chosen n (live x.key))) all;
    }

-- the test is the role closure
pub record IsClosure (n : Normal) (below : ℕ → ℕ → Bool) : Type 0 where
  pub only : (r s : ℕ) → below r s ≡ true → Under n.n5 r s
  pub all : (r s : ℕ) → Under n.n5 r s → below r s ≡ true

-- the roles of N2 and N5 are below their number
pub record RolesInRange (n : Normal) : Type 0 where
  pub n2 : (t : Triple) → OneOf t n.n2 → t.role < n.roles
  pub n5 : (p : RolePair) → OneOf p n.n5 → p.higher < n.roles

-- the key has a context, which is without the empty clause
pub record IsOpen (keys : List (List ℕ)) (live : List ℕ → List (List Elem))
    (k : List ℕ) : Type 0 where
  pub here : OneOf k keys
  pub open_still : OneOf [] (live k) → ⊥

-- the interpretation has these elements, members and edges
pub record IsListed (i : Interpretation) (l : Listing) : Type 0 where
  pub size : i.size ≡ l.size
  pub members : i.classes ≡ l.members
  pub edges : i.roles ≡ l.edges

-- the element meets the key, and is in the atoms that are chosen in the key's context and in no others
pub record StandsFor (n : Normal) (i : Interpretation) (k : List ℕ) (live : List (List Elem))
    (x : ℕ) : Type 0 where
  pub below : x < i.size
  pub meets : Meets i x k
  pub chosen : (a : ℕ) → IsIn i a x → OneOf (Plain a) (chosen n live)

-- the interpretation is a model of the normal axioms, and each context without the empty clause has an element that stands for it
pub record IsCanonical (n : Normal) (i : Interpretation) (keys : List (List ℕ))
    (live : List ℕ → List (List Elem)) : Type 0 where
  pub holds : IsNormalModel n i
  pub element : (k : List ℕ) → IsOpen keys live k → (x : ℕ) × StandsFor n i k (live k) x

-- COMPLETENESS: where some context is without the empty clause, the canonical interpretation of saturated contexts is a finite model of the
-- normal axioms, in which each context without the empty clause has an element that stands for it
abbrev pub Completeness : Type 0
Completeness = (n : Normal) (below : ℕ → ℕ → Bool) → IsClosure n below → RolesInRange n
    → (keys : List (List ℕ)) (live : List ℕ → List (List Elem)) → Saturated n keys live
    → (k : List ℕ) → IsOpen keys live k
    → (i : Interpretation) × IsListed i (canonical n below keys live) × IsCanonical n i keys live
