-- How many operands each form has.
use Rattle.std.proofs.Common.{◌≡◌, ◌≤◌, ◌<◌, ℕ, true, false, List, [], ◌∷◌, length, arith}
use Rattle.std.specs.Prelude.{Some}
use Rattle.cd_meaning.specs.declared.expression.Expr.{Expr}
use Rattle.cd_syntax.specs.declared.operands.Made.{Made}
use Rattle.cd_syntax.specs.declared.words.AxiomForm.{AxiomForm}
use Rattle.cd_syntax.specs.declared.words.AxiomForm.TheVariants.{SubClassOf, EquivalentClasses, DisjointClasses, SubObjectPropertyOf, EquivalentObjectProperties, ObjectPropertyDomain, ObjectPropertyRange}
use Rattle.cd_syntax.specs.declared.words.ExprForm.TheVariants.{ObjectIntersectionOf, ObjectUnionOf, ObjectComplementOf, ObjectSomeValuesFrom, ObjectAllValuesFrom}
use Rattle.cd_syntax.specs.declared.words.Form.{Form}
use Rattle.cd_syntax.specs.Operands.{heads_of, has_more_heads, parts_of, has_more_parts, wants_head, wants_part, made_of}

-- so many operands the form may have
pub record IsCount (form : Form) (heads parts : ℕ) : Type 0 where
  pub enough_heads : heads_of form ≤ heads
  pub few_heads : has_more_heads form ≡ false → heads ≤ heads_of form
  pub no_parts : has_more_heads form ≡ true → parts ≡ 0
  pub few_parts : has_more_parts form ≡ false → parts ≤ parts_of form

-- so many operands make something
pub counts : (form : Form) (heads : List ℕ) (parts : List Expr) (made : Made) → made_of form heads parts ≡ Some made
    → IsCount form (length heads) (length parts)
counts (Form.Axiom SubClassOf) [] (c ∷ d ∷ []) made e = grind arith
counts (Form.Axiom EquivalentClasses) [] (c ∷ d ∷ more) made e = grind arith
counts (Form.Axiom DisjointClasses) [] (c ∷ d ∷ more) made e = grind arith
counts (Form.Axiom AxiomForm.DisjointUnion) (a ∷ []) (c ∷ d ∷ more) made e = grind arith
counts (Form.Axiom SubObjectPropertyOf) (r ∷ s ∷ []) [] made e = grind arith
counts (Form.Axiom EquivalentObjectProperties) (r ∷ s ∷ more) [] made e = grind arith
counts (Form.Axiom ObjectPropertyDomain) (r ∷ []) (c ∷ []) made e = grind arith
counts (Form.Axiom ObjectPropertyRange) (r ∷ []) (c ∷ []) made e = grind arith
counts (Form.Expr ObjectIntersectionOf) [] (c ∷ more) made e = grind arith
counts (Form.Expr ObjectUnionOf) [] (c ∷ more) made e = grind arith
counts (Form.Expr ObjectComplementOf) [] (c ∷ []) made e = grind arith
counts (Form.Expr ObjectSomeValuesFrom) (r ∷ []) (c ∷ []) made e = grind arith
counts (Form.Expr ObjectAllValuesFrom) (r ∷ []) (c ∷ []) made e = grind arith
counts form heads parts made e = absurd cc

-- behind heads that another follows, a head is wanted
pub wants_head-next : (form : Form) (heads parts more : ℕ) → IsCount form heads parts → more < heads → wants_head form more 0 ≡ true
wants_head-next form heads parts more c h = grind (arith, c)

-- behind all heads, and parts that another follows, no head is wanted
pub wants_head-none : (form : Form) (heads parts more : ℕ) → IsCount form heads parts → more < parts → wants_head form heads more ≡ false
wants_head-none form heads parts more c h = grind (arith, c)

-- but a part
pub wants_part-next : (form : Form) (heads parts more : ℕ) → IsCount form heads parts → more < parts → wants_part form heads more ≡ true
wants_part-next form heads parts more c h = grind (arith, c)
