-- Documents by which no maximum is reached: those of named classes alone, within stated sizes.
use Rattle.std.specs.Prelude.{◌≡◌, ℕ, ◌+◌, ◌*◌, ◌<◌, List, [], ◌∷◌, length, All}
use Rattle.cd_base.specs.declared.limit_kind.LimitKind.{LimitKind}
use Rattle.cd_meaning.specs.declared.document.Document.{Document}
use Rattle.cd_meaning.specs.declared.expression.Axiom.{Axiom}
use Rattle.cd_meaning.specs.declared.expression.Axiom.TheVariants.{SubClass, SameClasses, Disjoint, DisjointUnion, SubRole, SameRoles, Domain, Range}
use Rattle.cd_meaning.specs.declared.expression.Expr.{Expr}
use Rattle.cd_meaning.specs.declared.expression.Expr.TheVariants.{Name}
use Rattle.cd_saturation.specs.Limit.{IsReached}

-- the expression is a named class
abbrev pub IsName : Expr → Type 0
IsName e = (c : ℕ) × (e ≡ Name c)

-- each class expression of the axiom is a named class, and it is no disjoint union, by which an element of a class may be in any of others
abbrev pub IsOfNames : Axiom → Type 0
IsOfNames (SubClass c d) = IsName c × IsName d
IsOfNames (SameClasses l) = All IsName l
IsOfNames (Disjoint l) = All IsName l
IsOfNames (DisjointUnion a l) = ⊥
IsOfNames (SubRole r s) = Unit {0}
IsOfNames (SameRoles l) = Unit {0}
IsOfNames (Domain r c) = IsName c
IsOfNames (Range r c) = IsName c

-- how many operands the axioms on disjoint classes have
abbrev pub disjoint_operands : List Axiom → ℕ
disjoint_operands [] = 0
disjoint_operands (Disjoint l ∷ more) = length l + disjoint_operands more
disjoint_operands (stated ∷ more) = disjoint_operands more

-- The document is of named classes alone, and both maxima are above what it can need: a context for each class, and in each context one
-- fact for each class, one for each operand of an axiom on disjoint classes, and one that the class has no element.
pub record IsOfNamesWithin (document : Document) (max_contexts max_facts : ℕ) : Type 0 where
  pub names : All IsOfNames document.axioms
  pub contexts : length document.classes < max_contexts
  pub facts : length document.classes * (length document.classes + disjoint_operands document.axioms + 1) < max_facts

-- no maximum can be reached by such a document
abbrev pub NamesAreAnswerable : Type 0
NamesAreAnswerable = (document : Document) (max_contexts max_facts : ℕ) → IsOfNamesWithin document max_contexts max_facts
    → (kind : LimitKind) (number : ℕ) → IsReached document max_contexts max_facts kind number → ⊥
