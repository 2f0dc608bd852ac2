-- The parser's tables of operands: what those of each form make, and how many there are. Structural Specification, sections 8.1, 8.2, 9.1
-- and 9.2. The grammar itself writes each axiom and each expression with its operands.
use Rattle.std.specs.Prelude.{ℕ, Bool, true, false, ◌&&◌, ◌||◌, ◌==◌, nat_lt, List, [], ◌∷◌, Option, Some, None}
use Rattle.std.specs.Option.{option_map}
use Rattle.cd_meaning.specs.declared.expression.Expr.{Expr}
use Rattle.cd_meaning.specs.declared.expression.Expr.TheVariants.{Meet, Join, Minus, SomeOf, AllOf}
use Rattle.cd_meaning.specs.declared.expression.Axiom.{Axiom}
use Rattle.cd_meaning.specs.declared.expression.Axiom.TheVariants.{SubClass, SameClasses, Disjoint, DisjointUnion, SubRole, SameRoles, Domain, Range}
use Rattle.cd_syntax.specs.declared.words.AxiomForm.{AxiomForm}
use Rattle.cd_syntax.specs.declared.words.AxiomForm.TheVariants.{SubClassOf, EquivalentClasses, DisjointClasses, SubObjectPropertyOf, EquivalentObjectProperties, ObjectPropertyDomain, ObjectPropertyRange}
use Rattle.cd_syntax.specs.declared.words.ExprForm.{ExprForm}
use Rattle.cd_syntax.specs.declared.words.ExprForm.TheVariants.{ObjectIntersectionOf, ObjectUnionOf, ObjectComplementOf, ObjectSomeValuesFrom, ObjectAllValuesFrom}
use Rattle.cd_syntax.specs.declared.words.Form.{Form}
use Rattle.cd_syntax.specs.declared.operands.Made.{Made}

-- the axiom of a form whose operands are these roles (or this class), and then these expressions
abbrev pub axiom_of : AxiomForm → List ℕ → List Expr → Option Axiom
axiom_of SubClassOf [] (c ∷ d ∷ []) = Some (SubClass c d)
axiom_of EquivalentClasses [] (c ∷ d ∷ more) = Some (SameClasses (c ∷ d ∷ more))
axiom_of DisjointClasses [] (c ∷ d ∷ more) = Some (Disjoint (c ∷ d ∷ more))
axiom_of AxiomForm.DisjointUnion (a ∷ []) (c ∷ d ∷ more) = Some (DisjointUnion a (c ∷ d ∷ more))
axiom_of SubObjectPropertyOf (r ∷ s ∷ []) [] = Some (SubRole r s)
axiom_of EquivalentObjectProperties (r ∷ s ∷ more) [] = Some (SameRoles (r ∷ s ∷ more))
axiom_of ObjectPropertyDomain (r ∷ []) (c ∷ []) = Some (Domain r c)
axiom_of ObjectPropertyRange (r ∷ []) (c ∷ []) = Some (Range r c)
axiom_of form roles parts = None

-- the expression of a form whose operands are these roles, and then these expressions
abbrev pub expression_of : ExprForm → List ℕ → List Expr → Option Expr
expression_of ObjectIntersectionOf [] (c ∷ more) = Some (Meet (c ∷ more))
expression_of ObjectUnionOf [] (c ∷ more) = Some (Join (c ∷ more))
expression_of ObjectComplementOf [] (c ∷ []) = Some (Minus c)
expression_of ObjectSomeValuesFrom (r ∷ []) (c ∷ []) = Some (SomeOf r c)
expression_of ObjectAllValuesFrom (r ∷ []) (c ∷ []) = Some (AllOf r c)
expression_of form roles parts = None

-- ---- how many operands a form has

-- so many roles (or classes) stand first
abbrev pub heads_of : Form → ℕ
heads_of (Form.Axiom AxiomForm.DisjointUnion) = 1
heads_of (Form.Axiom SubObjectPropertyOf) = 2
heads_of (Form.Axiom EquivalentObjectProperties) = 2
heads_of (Form.Axiom ObjectPropertyDomain) = 1
heads_of (Form.Axiom ObjectPropertyRange) = 1
heads_of (Form.Expr ObjectSomeValuesFrom) = 1
heads_of (Form.Expr ObjectAllValuesFrom) = 1
heads_of form = 0

-- or more
abbrev pub has_more_heads : Form → Bool
has_more_heads (Form.Axiom EquivalentObjectProperties) = true
has_more_heads form = false

-- and then so many expressions
abbrev pub parts_of : Form → ℕ
parts_of (Form.Axiom SubClassOf) = 2
parts_of (Form.Axiom EquivalentClasses) = 2
parts_of (Form.Axiom DisjointClasses) = 2
parts_of (Form.Axiom AxiomForm.DisjointUnion) = 2
parts_of (Form.Axiom SubObjectPropertyOf) = 0
parts_of (Form.Axiom EquivalentObjectProperties) = 0
parts_of form = 1

-- or more
abbrev pub has_more_parts : Form → Bool
has_more_parts (Form.Axiom EquivalentClasses) = true
has_more_parts (Form.Axiom DisjointClasses) = true
has_more_parts (Form.Axiom AxiomForm.DisjointUnion) = true
has_more_parts (Form.Expr ObjectIntersectionOf) = true
has_more_parts (Form.Expr ObjectUnionOf) = true
has_more_parts form = false

-- behind so many heads and parts another head may stand
abbrev pub wants_head : Form → ℕ → ℕ → Bool
wants_head form heads parts = parts == 0 && (nat_lt heads (heads_of form) || has_more_heads form)

-- behind so many heads and parts another part may stand
abbrev pub wants_part : Form → ℕ → ℕ → Bool
wants_part form heads parts =
    heads == heads_of form && (nat_lt parts (parts_of form) || has_more_parts form)

-- its head is a class
abbrev pub has_class_head : Form → Bool
has_class_head (Form.Axiom AxiomForm.DisjointUnion) = true
has_class_head form = false

abbrev pub made_of : Form → List ℕ → List Expr → Option Made
made_of (Form.Axiom form) heads parts = option_map Made.Axiom (axiom_of form heads parts)
made_of (Form.Expr form) heads parts = option_map Made.Expr (expression_of form heads parts)

-- ---- few operands

abbrev pub only_of : {X : Type 0} → List X → Option X
only_of (x ∷ []) = Some x
only_of xs = None

abbrev pub two_of : {X : Type 0} → List X → Option (X × X)
two_of (x ∷ y ∷ []) = Some (x, y)
two_of xs = None
