-- The grammar over the items of the parser, which knows a word by its key.
use Rattle.std.specs.Prelude.{◌≡◌, ◌≢◌, ◌⊎◌, ℕ, zero, suc, true, false, List, [], ◌∷◌, ◌++◌, map, Some, None}
use Rattle.cd_meaning.specs.declared.expression.Axiom.{Axiom}
use Rattle.cd_meaning.specs.declared.expression.Expr.{Expr}
use Rattle.cd_meaning.specs.declared.expression.Expr.TheVariants.{Name}
use Rattle.cd_names.specs.Names.{number}
use Rattle.cd_names.specs.Prefixes.{meaning}
use Rattle.cd_syntax.specs.declared.item.Item.{Item}
use Rattle.cd_syntax.specs.declared.item.Item.TheVariants.{Word, Short, Node, FullIri}
use Rattle.cd_syntax.specs.declared.known.Known.{Known}
use Rattle.cd_syntax.specs.declared.words.AxiomForm.{AxiomForm}
use Rattle.cd_syntax.specs.declared.words.ExprForm.{ExprForm}
use Rattle.cd_syntax.specs.declared.words.Form.{Form}
use Rattle.cd_syntax.specs.declared.words.Keyword.{Keyword}
use Rattle.cd_syntax.specs.Grammar.{begun, with_prefix, with_class, with_role, with_axiom, top_role, bottom_role, nesting}
use Rattle.cd_syntax.specs.Operands.{axiom_of, expression_of, has_class_head}

-- ---- what is wanted at a place

pub data Wanted : Type 0 where
  -- this item
  Exact : Item → Wanted
  AnyIri : Wanted
  -- an IRI or an anonymous individual
  Subject : Wanted
  -- the IRI that the prefix stands for
  PrefixIri : List ℕ → Wanted
  -- the IRI of the class or the role of this number
  ClassOf : ℕ → Wanted
  RoleOf : ℕ → Wanted
  -- the parenthesis behind this axiom
  ClosingOf : Axiom → Wanted
  -- what the lines below say
  Text : Wanted
  OntologyIri : Wanted
  Annotations : Wanted
  Axioms : Wanted
  DeclarationIn : Wanted
  AssertionIn : Wanted
  AnnotationAxiomIn : Wanted
  AxiomIn : AxiomForm → Axiom → Wanted
  AnnotationIn : ℕ → Wanted
  Value : Wanted
  ExprOf : ℕ → Expr → Wanted

-- ---- items that stand for themselves

-- the item stands for the IRI: in full, or by a prefix that is declared
abbrev pub Means : Known → Item → List ℕ → Type 0
Means known (FullIri i) iri = iri ≡ i
Means known (Short p l) iri = (base : List ℕ) × (meaning known.prefixes p ≡ Some base) × (iri ≡ base ++ l)
Means known other iri = ⊥

abbrev pub IsAnyIri : Known → Item → Type 0
IsAnyIri known item = (iri : List ℕ) × Means known item iri

-- an anonymous individual with a name
abbrev pub IsNode : Item → Type 0
IsNode item = (label : List ℕ) × (item ≡ Node label) × (label ≢ [])

-- the item stands at a place that wants this, and then so much is known
abbrev pub Stands : Known → Wanted → Item → Known → Type 0
Stands known (Exact e) item after = (item ≡ e) × (after ≡ known)
Stands known AnyIri item after = IsAnyIri known item × (after ≡ known)
Stands known Subject item after = (IsAnyIri known item ⊎ IsNode item) × (after ≡ known)
Stands known (PrefixIri p) item after =
    (i : List ℕ) × (item ≡ FullIri i) × ((meaning known.prefixes p ≡ None) ⊎ (meaning known.prefixes p ≡ Some i)) × (after ≡ with_prefix known p i)
Stands known (ClassOf c) item after = (i : List ℕ) × Means known item i × (c ≡ number known.classes i) × (after ≡ with_class known i)
Stands known (RoleOf r) item after =
    (i : List ℕ) × Means known item i × (i ≢ top_role) × (i ≢ bottom_role) × (r ≡ number known.roles i) × (after ≡ with_role known i)
Stands known (ClosingOf a) item after = (item ≡ Item.Closing) × (after ≡ with_axiom known a)
Stands known other item after = ⊥

-- ---- the lines of the grammar

-- a word, a parenthesis, and what is wanted behind it
abbrev pub opened : Keyword → List Wanted → List Wanted
opened key inner = Exact (Word key) ∷ Exact Item.Opening ∷ inner

-- an annotation, within which one less than so many may stand inside each other, and then this
abbrev pub IsAnnotated : ℕ → Wanted → List Wanted → Type 0
IsAnnotated zero s parts = ⊥
IsAnnotated (suc n) s parts = parts ≡ opened Keyword.Annotation (AnnotationIn n ∷ s ∷ [])

-- a role, or the class that the form has in its place
abbrev pub head_of : Form → ℕ → Wanted
head_of form = elim (has_class_head form) [ true ↦ ClassOf | false ↦ RoleOf ]

-- the operands of a form, whose expressions have at most n constructors inside each other
abbrev pub operands : Form → ℕ → List ℕ → List Expr → List Wanted
operands form n heads parts = map (head_of form) heads ++ map (ExprOf n) parts

-- some operands of the form make the axiom
abbrev pub IsMade : AxiomForm → Axiom → Type 0
IsMade form a = (heads : List ℕ) × (inner : List Expr) × (axiom_of form heads inner ≡ Some a)

-- an expression with operands, of at most so many constructors inside each other
abbrev pub IsBuilt : ℕ → Expr → List Wanted → Type 0
IsBuilt zero e parts = ⊥
IsBuilt (suc n) e parts = (form : ExprForm) × (roles : List ℕ) × (inner : List Expr) × (expression_of form roles inner ≡ Some e)
    × (parts ≡ opened (Keyword.Expr form) (operands (Form.Expr form) n roles inner ++ Exact Item.Closing ∷ []))

-- the parts are a line of what is wanted. At most `most` annotations, and as many constructors, stand inside each other.
abbrev pub Line : ℕ → Wanted → List Wanted → Type 0
Line most Text parts =
    ((p : List ℕ) × (parts ≡ opened Keyword.Prefix (Exact (Short p []) ∷ Exact Item.Equals ∷ PrefixIri p ∷ Exact Item.Closing ∷ Text ∷ [])))
    ⊎ (parts ≡ opened Keyword.Ontology (OntologyIri ∷ []))
Line most OntologyIri parts = (parts ≡ Annotations ∷ []) ⊎ (parts ≡ AnyIri ∷ Annotations ∷ []) ⊎ (parts ≡ AnyIri ∷ AnyIri ∷ Annotations ∷ [])
Line most Annotations parts = IsAnnotated most Annotations parts ⊎ (parts ≡ Axioms ∷ [])
Line most Axioms parts =
    (parts ≡ opened Keyword.Declaration (DeclarationIn ∷ Axioms ∷ []))
    ⊎ ((form : AxiomForm) × (a : Axiom) × IsMade form a × (parts ≡ opened (Keyword.Axiom form) (AxiomIn form a ∷ Axioms ∷ [])))
    ⊎ (parts ≡ opened Keyword.AnnotationAssertion (AssertionIn ∷ Axioms ∷ []))
    ⊎ (parts ≡ opened Keyword.AnnotationAxiom (AnnotationAxiomIn ∷ Axioms ∷ []))
    ⊎ (parts ≡ Exact Item.Closing ∷ Exact Item.End ∷ [])
Line most DeclarationIn parts =
    IsAnnotated most DeclarationIn parts
    ⊎ ((c : ℕ) × (parts ≡ opened Keyword.Class (ClassOf c ∷ Exact Item.Closing ∷ Exact Item.Closing ∷ [])))
    ⊎ (parts ≡ opened Keyword.Entity (AnyIri ∷ Exact Item.Closing ∷ Exact Item.Closing ∷ []))
Line most AssertionIn parts = IsAnnotated most AssertionIn parts ⊎ (parts ≡ AnyIri ∷ Subject ∷ Value ∷ Exact Item.Closing ∷ [])
Line most AnnotationAxiomIn parts = IsAnnotated most AnnotationAxiomIn parts ⊎ (parts ≡ AnyIri ∷ AnyIri ∷ Exact Item.Closing ∷ [])
Line most (AxiomIn form a) parts =
    IsAnnotated most (AxiomIn form a) parts
    ⊎ ((heads : List ℕ) × (inner : List Expr) × (axiom_of form heads inner ≡ Some a) × (parts ≡ operands (Form.Axiom form) most heads inner ++ ClosingOf a ∷ []))
Line most (AnnotationIn n) parts = IsAnnotated n (AnnotationIn n) parts ⊎ (parts ≡ AnyIri ∷ Value ∷ Exact Item.Closing ∷ [])
Line most Value parts =
    (parts ≡ Subject ∷ [])
    ⊎ (parts ≡ Exact Item.Quoted ∷ [])
    ⊎ (parts ≡ Exact Item.Quoted ∷ Exact Item.Lang ∷ [])
    ⊎ (parts ≡ Exact Item.Quoted ∷ Exact Item.Carets ∷ AnyIri ∷ [])
Line most (ExprOf n e) parts = ((c : ℕ) × (e ≡ Name c) × (parts ≡ ClassOf c ∷ [])) ⊎ IsBuilt n e parts
Line most other parts = ⊥

-- From what is known and wanted, the items lead to what is known and wanted then: one item stands, or one line is chosen, after another.
pub data Leads (most : ℕ) : Known → List Wanted → List Item → Known → List Wanted → Type 0 where
  here : {known : Known} {wanted : List Wanted} → Leads most known wanted [] known wanted
  one : {known after known' : Known} {w : Wanted} {wanted wanted' : List Wanted} {item : Item} {items : List Item}
      → Stands known w item after → Leads most after wanted items known' wanted' → Leads most known (w ∷ wanted) (item ∷ items) known' wanted'
  line : {known known' : Known} {w : Wanted} {wanted wanted' : List Wanted} {items : List Item} (parts : List Wanted)
      → Line most w parts → Leads most known (parts ++ wanted) items known' wanted' → Leads most known (w ∷ wanted) items known' wanted'

-- ---- the items of a document

-- the items are those of a document, and so much is known at its end
abbrev pub IsWhole : List Item → Known → Type 0
IsWhole items known = Leads nesting begun (Text ∷ []) items known []
