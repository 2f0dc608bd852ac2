-- How many nodes a class expression and an axiom have that operands make.
use Rattle.std.proofs.Common.{◌≡◌, ℕ, ◌+◌, ◌≤◌, List, [], ◌∷◌, subst, arith}
use Rattle.std.specs.Prelude.{Option, Some, None, sum_by}
use Rattle.std.specs.Option.{option_map}
use Rattle.cd_meaning.specs.declared.expression.Expr.{Expr}
use Rattle.cd_meaning.specs.Nodes.{nodes_of, nodes_in}
use Rattle.cd_meaning.specs.NodesTable.{nodes-Meet, nodes-Join, nodes-Minus, nodes-SomeOf, nodes-AllOf}
use Rattle.cd_syntax.specs.declared.operands.Made.{Made}
use Rattle.cd_syntax.specs.declared.words.AxiomForm.{AxiomForm}
use Rattle.cd_syntax.specs.declared.words.AxiomForm.TheVariants.{SubClassOf, EquivalentClasses, DisjointClasses, SubObjectPropertyOf, EquivalentObjectProperties, ObjectPropertyDomain, ObjectPropertyRange}
use Rattle.cd_syntax.specs.declared.words.ExprForm.{ExprForm}
use Rattle.cd_syntax.specs.declared.words.ExprForm.TheVariants.{ObjectIntersectionOf, ObjectUnionOf, ObjectComplementOf, ObjectSomeValuesFrom, ObjectAllValuesFrom}
use Rattle.cd_syntax.specs.declared.words.Form.{Form}
use Rattle.cd_syntax.specs.Operands.{axiom_of, expression_of, made_of}

-- ---- what operands make

-- it has at most so many nodes
abbrev pub HasNodes : ℕ → Option Made → Type 0
HasNodes n None = Unit {0}
HasNodes n (Some (Made.Axiom a)) = nodes_in a ≤ n
HasNodes n (Some (Made.Expr e)) = nodes_of e ≤ n

axiom_nodes : (form : AxiomForm) (heads : List ℕ) (parts : List Expr) → HasNodes (1 + sum_by nodes_of parts) (option_map Made.Axiom (axiom_of form heads parts))
axiom_nodes SubClassOf [] (c ∷ d ∷ []) = omega arith
axiom_nodes EquivalentClasses [] (c ∷ d ∷ more) = omega arith
axiom_nodes DisjointClasses [] (c ∷ d ∷ more) = omega arith
axiom_nodes AxiomForm.DisjointUnion (a ∷ []) (c ∷ d ∷ more) = omega arith
axiom_nodes SubObjectPropertyOf (r ∷ s ∷ []) [] = omega arith
axiom_nodes EquivalentObjectProperties (r ∷ s ∷ more) [] = omega arith
axiom_nodes ObjectPropertyDomain (r ∷ []) (c ∷ []) = omega arith
axiom_nodes ObjectPropertyRange (r ∷ []) (c ∷ []) = omega arith
axiom_nodes form heads parts = tt

expression_nodes : (form : ExprForm) (heads : List ℕ) (parts : List Expr) → HasNodes (1 + sum_by nodes_of parts) (option_map Made.Expr (expression_of form heads parts))
expression_nodes ObjectIntersectionOf [] (c ∷ more) = omega (arith, nodes-Meet (c ∷ more))
expression_nodes ObjectUnionOf [] (c ∷ more) = omega (arith, nodes-Join (c ∷ more))
expression_nodes ObjectComplementOf [] (c ∷ []) = omega (arith, nodes-Minus c)
expression_nodes ObjectSomeValuesFrom (r ∷ []) (c ∷ []) = omega (arith, nodes-SomeOf r c)
expression_nodes ObjectAllValuesFrom (r ∷ []) (c ∷ []) = omega (arith, nodes-AllOf r c)
expression_nodes form heads parts = tt

made_nodes : (form : Form) (heads : List ℕ) (parts : List Expr) → HasNodes (1 + sum_by nodes_of parts) (made_of form heads parts)
made_nodes (Form.Axiom form) heads parts = axiom_nodes form heads parts
made_nodes (Form.Expr form) heads parts = expression_nodes form heads parts

-- one node more than its operands
pub nodes_made : (form : Form) (heads : List ℕ) (parts : List Expr) (o : Option Made) → made_of form heads parts ≡ o → HasNodes (1 + sum_by nodes_of parts) o
nodes_made form heads parts o makes = subst (HasNodes (1 + sum_by nodes_of parts)) makes (made_nodes form heads parts)
