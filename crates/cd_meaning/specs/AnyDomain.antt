-- Interpretations over any domain, finite or not: Direct Semantics, sections 2.2.3, 2.3.1 and 2.3.2. Sets and relations are tests.
use Rattle.std.specs.Prelude.{◌≡◌, ◌≢◌, ℕ, ◌<◌, Bool, not, ◌↔◌, IsTrue, List, All}
use Rattle.std.specs.List.{list_all, list_any}
use Rattle.cd_meaning.specs.declared.expression.Expr.{Expr}
use Rattle.cd_meaning.specs.declared.expression.Expr.TheVariants.{Name, Meet, Join, Minus, SomeOf, AllOf}
use Rattle.cd_meaning.specs.declared.expression.Axiom.{Axiom}
use Rattle.cd_meaning.specs.declared.expression.Axiom.TheVariants.{SubClass, SameClasses, Disjoint, DisjointUnion, SubRole, SameRoles, Domain, Range}
use Rattle.cd_meaning.specs.declared.interpretation.Interpretation.{Interpretation}
use Rattle.cd_meaning.specs.Entailment.{Entails}
use Rattle.cd_meaning.specs.Membership.{member}
use Rattle.cd_meaning.specs.Truth.{has_edge, EveryTwo, Holds}

-- an interpretation over the domain D, which is not empty: the elements of each class expression and the edges of each role, with a
-- line for each form of the table of section 2.2.3
pub record Structure (D : Type 0) : Type 0 where
  pub inhabited : D
  pub has : Expr → D → Bool
  pub edge : ℕ → D → D → Bool
  pub thing : (x : D) → IsTrue (has (Name 0) x)
  pub nothing : (x : D) → IsTrue (has (Name 1) x) → ⊥
  pub meet : (parts : List Expr) (x : D) → has (Meet parts) x ≡ list_all (λ part. has part x) parts
  pub join : (parts : List Expr) (x : D) → has (Join parts) x ≡ list_any (λ part. has part x) parts
  pub minus : (part : Expr) (x : D) → has (Minus part) x ≡ not (has part x)
  pub some : (r : ℕ) (part : Expr) (x : D) → IsTrue (has (SomeOf r part) x)
      ↔ ((y : D) × IsTrue (edge r x y) × IsTrue (has part y))
  pub all : (r : ℕ) (part : Expr) (x : D) → IsTrue (has (AllOf r part) x)
      ↔ ((y : D) → IsTrue (edge r x y) → IsTrue (has part y))

module _ {D : Type 0} (s : Structure D) where
  -- every element of c is one of d
  abbrev pub IsBelowOver : Expr → Expr → Type 0
  IsBelowOver c d = (x : D) → IsTrue (s.has c x) → IsTrue (s.has d x)

  -- they have the same elements
  abbrev pub HasSameMembersOver : Expr → Expr → Type 0
  HasSameMembersOver c d = IsBelowOver c d × IsBelowOver d c

  -- they have no common element, unless they are one tree
  abbrev pub IsDistinctlyApartOver : Expr → Expr → Type 0
  IsDistinctlyApartOver c d = c ≢ d → (x : D) → IsTrue (s.has c x) → IsTrue (s.has d x) → ⊥

  -- every edge of r is one of t
  abbrev pub IsSubRoleOver : ℕ → ℕ → Type 0
  IsSubRoleOver r t = (x y : D) → IsTrue (s.edge r x y) → IsTrue (s.edge t x y)

  -- they have the same edges
  abbrev pub HasSameEdgesOver : ℕ → ℕ → Type 0
  HasSameEdgesOver r t = IsSubRoleOver r t × IsSubRoleOver t r

  -- the axiom is true: the tables of sections 2.3.1 and 2.3.2
  abbrev pub HoldsOver : Axiom → Type 0
  HoldsOver (SubClass c d) = IsBelowOver c d
  HoldsOver (SameClasses l) = EveryTwo HasSameMembersOver l
  HoldsOver (Disjoint l) = EveryTwo IsDistinctlyApartOver l
  HoldsOver (DisjointUnion a l) =
      HasSameMembersOver (Name a) (Join l) × EveryTwo IsDistinctlyApartOver l
  HoldsOver (SubRole r t) = IsSubRoleOver r t
  HoldsOver (SameRoles l) = EveryTwo HasSameEdgesOver l
  HoldsOver (Domain r c) = (x y : D) → IsTrue (s.edge r x y) → IsTrue (s.has c x)
  HoldsOver (Range r c) = (x y : D) → IsTrue (s.edge r x y) → IsTrue (s.has c y)

-- in every structure over D in which the axioms hold every element of class a is one of class b
abbrev pub EntailsOver : Type 0 → List Axiom → ℕ → ℕ → Type 0
EntailsOver D axioms a b = (s : Structure D) → All (HoldsOver s) axioms
    → IsBelowOver s (Name a) (Name b)

-- the elements of a domain of n
abbrev pub Elements : ℕ → Type 0
Elements n = (x : ℕ) × (x < n)

-- axioms entail over finite interpretations exactly what they entail over this domain, finite or not, and over every finite one
abbrev pub FiniteIsEnough : Type 0 → Type 0
FiniteIsEnough D = (axioms : List Axiom) (a b : ℕ)
    → Entails axioms a b ↔ (EntailsOver D axioms a b
    × ((n : ℕ) → EntailsOver (Elements n) axioms a b))

-- a finite interpretation as a structure over its elements: the same are in each expression, each role has the same edges, and the same
-- axioms hold
pub record AsStructure (i : Interpretation) : Type 0 where
  pub structure : Structure (Elements i.size)
  pub has : (e : Expr) (x : Elements i.size) → structure.has e x ≡ member i e x.0
  pub edge : (r : ℕ) (x y : Elements i.size) → structure.edge r x y ≡ has_edge i r x.0 y.0
  pub holds : (a : Axiom) → Holds i a ↔ HoldsOver structure a

-- every finite interpretation is one
abbrev pub FiniteIsSome : Type 0
FiniteIsSome = (i : Interpretation) → AsStructure i
