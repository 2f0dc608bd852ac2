-- When an axiom holds in an interpretation: Direct Semantics, sections 2.3.1 and 2.3.2.
use Rattle.std.specs.Prelude.{◌≡◌, ◌≢◌, ℕ, ◌<◌, Bool, ◌&&◌, ◌==◌, IsTrue, List, All}
use Rattle.std.specs.List.{list_any}
use Rattle.cd_meaning.specs.declared.expression.Expr.{Expr}
use Rattle.cd_meaning.specs.declared.expression.Expr.TheVariants.{Name, Join}
use Rattle.cd_meaning.specs.declared.expression.Axiom.{Axiom}
use Rattle.cd_meaning.specs.declared.expression.Axiom.TheVariants.{SubClass, SameClasses, Disjoint, DisjointUnion, SubRole, SameRoles, Domain, Range}
use Rattle.cd_meaning.specs.declared.interpretation.Edge.{Edge}
use Rattle.cd_meaning.specs.declared.interpretation.Interpretation.{Interpretation}
use Rattle.cd_meaning.specs.Membership.{member, goes}

-- r has an edge from x to y
abbrev pub has_edge : Interpretation → ℕ → ℕ → ℕ → Bool
has_edge i r x y = list_any (λ edge. goes edge r x && edge.target == y) i.roles

-- every element of c is one of d
abbrev pub IsBelow : Interpretation → Expr → Expr → Type 0
IsBelow i c d = (x : ℕ) → x < i.size → IsTrue (member i c x) → IsTrue (member i d x)

abbrev pub HasSameMembers : Interpretation → Expr → Expr → Type 0
HasSameMembers i c d = IsBelow i c d × IsBelow i d c

-- no element is in both
abbrev pub AreDisjoint : Interpretation → Expr → Expr → Type 0
AreDisjoint i c d = (x : ℕ) → x < i.size → IsTrue (member i c x) → IsTrue (member i d x) → ⊥

-- P holds of each edge of r
abbrev pub EachEdge : Interpretation → ℕ → (Edge → Type 0) → Type 0
EachEdge i r P = All (λ edge. edge.role ≡ r → P edge) i.roles

-- every edge of r is one of s
abbrev pub IsSubRole : Interpretation → ℕ → ℕ → Type 0
IsSubRole i r s = EachEdge i r (λ edge. IsTrue (has_edge i s edge.source edge.target))

abbrev pub IsDomain : Interpretation → ℕ → Expr → Type 0
IsDomain i r c = EachEdge i r (λ edge. IsTrue (member i c edge.source))

abbrev pub IsRange : Interpretation → ℕ → Expr → Type 0
IsRange i r c = EachEdge i r (λ edge. IsTrue (member i c edge.target))

-- R holds of every two of the list
abbrev pub EveryTwo : {X : Type 0} → (X → X → Type 0) → List X → Type 0
EveryTwo R l = All (λ c. All (λ d. R c d) l) l

-- they have no common element, unless they are one tree: operands are a set, so one that is repeated counts once
abbrev pub IsDistinctlyApart : Interpretation → Expr → Expr → Type 0
IsDistinctlyApart i c d = c ≢ d → AreDisjoint i c d

abbrev pub HasSameEdges : Interpretation → ℕ → ℕ → Type 0
HasSameEdges i r s = IsSubRole i r s × IsSubRole i s r

abbrev pub IsDisjointUnion : Interpretation → ℕ → List Expr → Type 0
IsDisjointUnion i a l = HasSameMembers i (Name a) (Join l) × EveryTwo (IsDistinctlyApart i) l

abbrev pub Holds : Interpretation → Axiom → Type 0
Holds i (SubClass c d) = IsBelow i c d
Holds i (SameClasses l) = EveryTwo (HasSameMembers i) l
Holds i (Disjoint l) = EveryTwo (IsDistinctlyApart i) l
Holds i (DisjointUnion a l) = IsDisjointUnion i a l
Holds i (SubRole r s) = IsSubRole i r s
Holds i (SameRoles l) = EveryTwo (HasSameEdges i) l
Holds i (Domain r c) = IsDomain i r c
Holds i (Range r c) = IsRange i r c
