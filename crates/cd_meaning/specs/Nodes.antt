-- How large axioms are. A node is an axiom, or an occurrence of a class expression in one.
use Rattle.std.specs.Prelude.{ℕ, ◌+◌, List, sum, sum_by}
use Rattle.cd_meaning.specs.declared.expression.Expr.{Expr}
use Rattle.cd_meaning.specs.declared.expression.Expr.TheOpen.{Expr-F}
use Rattle.cd_meaning.specs.declared.expression.Expr.TheFolds.{fold-Expr}
use Rattle.cd_meaning.specs.declared.expression.Axiom.{Axiom}
use Rattle.cd_meaning.specs.declared.expression.Axiom.TheVariants.{SubClass, SameClasses, Disjoint, DisjointUnion, SubRole, SameRoles, Domain, Range}

-- from those of the parts
abbrev pub nodes_by_parts : Expr-F ℕ → ℕ
nodes_by_parts (Expr-F.Name c) = 1
nodes_by_parts (Expr-F.Meet parts) = 1 + sum parts
nodes_by_parts (Expr-F.Join parts) = 1 + sum parts
nodes_by_parts (Expr-F.Minus part) = 1 + part
nodes_by_parts (Expr-F.SomeOf r part) = 1 + part
nodes_by_parts (Expr-F.AllOf r part) = 1 + part

abbrev pub nodes_of : Expr → ℕ
nodes_of = fold-Expr ℕ nodes_by_parts

abbrev pub nodes_in : Axiom → ℕ
nodes_in (SubClass c d) = 1 + nodes_of c + nodes_of d
nodes_in (SameClasses l) = 1 + sum_by nodes_of l
nodes_in (Disjoint l) = 1 + sum_by nodes_of l
nodes_in (DisjointUnion a l) = 1 + sum_by nodes_of l
nodes_in (SubRole r s) = 1
nodes_in (SameRoles l) = 1
nodes_in (Domain r c) = 1 + nodes_of c
nodes_in (Range r c) = 1 + nodes_of c

abbrev pub nodes : List Axiom → ℕ
nodes axioms = sum_by nodes_in axioms
