-- The elements of clauses: how they stand in a clause, and their order in the calculus.
use Rattle.std.specs.Prelude.{◌≡◌, ℕ, ◌<◌, ◌&&◌, not, Bool, true, false, cond, List, [], ◌∷◌, eqb, length, slice_index_or}
use Rattle.cd_base.specs.Lists.{OneOf, SameSet}
use Rattle.cd_base.specs.Keys.{atom_rank}
use Rattle.cd_base.specs.declared.normal.Normal.{Normal}
use Rattle.cd_clause.specs.Dictionary.{is_at_most, same_numbers}
use Rattle.cd_clause.specs.declared.elem.Elem.{Elem}
use Rattle.cd_clause.specs.declared.elem.Elem.TheVariants.{Plain, Exist}

-- an element as numbers: atoms come first
abbrev pub spelled : Elem → List ℕ
spelled (Plain a) = 0 ∷ a ∷ []
spelled (Exist r k) = 1 ∷ r ∷ k

-- the first stands before the second in a clause: atoms by number, then existentials by role, and of one role by key, larger keys before
-- those within them
abbrev pub is_before : Elem → Elem → Bool
is_before e f = not (is_at_most (spelled f) (spelled e))

-- an element's rank in the order of the calculus, compared in dictionary order: atoms are lowest, by the ranks that are told of them and
-- then by number, and existentials are above atoms, by role and key, larger keys below those within them
abbrev pub rank : Normal → Elem → List ℕ
rank n (Plain a) = 0 ∷ atom_rank n a ∷ a ∷ []
rank n (Exist r k) = 1 ∷ r ∷ k

-- the element is in the clause, and each of the clause is at most it: it is the greatest
pub record Eligible (n : Normal) (e : Elem) (c : List Elem) : Type 0 where
  pub isin : OneOf e c
  pub top : (f : Elem) → OneOf f c → is_at_most (rank n f) (rank n e) ≡ true

-- the element at that place of the clause is its greatest
pub record IsGreatestAt (n : Normal) (c : List Elem) (i : ℕ) : Type 0 where
  pub within : i < length c
  pub eligible : Eligible n (slice_index_or c i (Plain 0)) c

-- the atom is the greatest of the clause, and not alone in it: the clause leaves a case beside it
abbrev pub IsCase : Normal → ℕ → List Elem → Type 0
IsCase n a c = Eligible n (Plain a) c × (SameSet c (Plain a ∷ []) → ⊥)

-- whether they are the same element
abbrev pub same_elem : Elem → Elem → Bool
same_elem (Plain a) (Plain b) = eqb a b
same_elem (Plain a) (Exist r k) = false
same_elem (Exist r k) (Plain b) = false
same_elem (Exist r k) (Exist s l) = eqb r s && same_numbers k l

-- the rest of a clause beside an element
abbrev pub rest : Elem → List Elem → List Elem
rest e [] = []
rest e (f ∷ fs) = cond (same_elem e f) (rest e fs) (f ∷ rest e fs)
