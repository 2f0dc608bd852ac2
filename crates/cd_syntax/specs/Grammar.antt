-- The documents that are accepted: Structural Specification, sections 3.7, 5.8, 8.1, 8.2, 9.1, 9.2 and 10, in the profile of this
-- project. A grammar over tokens: what is wanted at a place stands for one token, or for what one of its lines says.
use Rattle.std.specs.Prelude.{◌≡◌, ◌≢◌, ◌⊎◌, ℕ, zero, suc, List, [], ◌∷◌, ◌++◌, map, codes, Contains, Option, Some, None}
use Rattle.cd_meaning.specs.declared.document.Document.{Document}
use Rattle.cd_meaning.specs.declared.expression.Axiom.{Axiom}
use Rattle.cd_meaning.specs.declared.expression.Axiom.TheVariants.{SubClass, SameClasses, Disjoint, DisjointUnion, SubRole, SameRoles, Domain, Range}
use Rattle.cd_meaning.specs.declared.expression.Expr.{Expr}
use Rattle.cd_meaning.specs.declared.expression.Expr.TheVariants.{Name, Meet, Join, Minus, SomeOf, AllOf}
use Rattle.cd_meaning.specs.Iri.{reserved_classes}
use Rattle.cd_names.specs.Names.{add_name, number}
use Rattle.cd_names.specs.Prefixes.{meaning, standard, declare}
use Rattle.cd_lex.specs.declared.token.Kind.{Kind}
use Rattle.cd_lex.specs.declared.token.Kind.TheVariants.{Opening, Closing, Equals, Carets, Word, Short, Node, FullIri, Quoted, Lang}
use Rattle.cd_lex.specs.Tokens.{Piece, IsCut, kinds}
use Rattle.cd_syntax.specs.declared.known.Known.{Known}

-- ---- what is known

-- before the first token
abbrev pub begun : Known
begun = record { prefixes = standard; classes = reserved_classes; roles = []; axioms = [] }

abbrev pub with_prefix : Known → List ℕ → List ℕ → Known
with_prefix known p i = record known { prefixes = declare known.prefixes p i }

-- a new class goes to the end
abbrev pub with_class : Known → List ℕ → Known
with_class known i = record known { classes = add_name known.classes i }

abbrev pub with_role : Known → List ℕ → Known
with_role known i = record known { roles = add_name known.roles i }

abbrev pub with_axiom : Known → Axiom → Known
with_axiom known a = record known { axioms = known.axioms ++ a ∷ [] }

-- ---- what is wanted at a place

pub data Wanted : Type 0 where
  -- this token
  Exact : Kind → Wanted
  -- one of these words
  AnyWord : List (List ℕ) → Wanted
  AnyIri : Wanted
  -- an IRI or an anonymous individual
  Subject : Wanted
  -- the IRI that the prefix stands for
  PrefixIri : List ℕ → Wanted
  -- the IRI of the class or the role of this number
  ClassOf : ℕ → Wanted
  RoleOf : ℕ → Wanted
  -- the parenthesis behind this axiom
  ClosingOf : Axiom → Wanted
  -- what the lines below say
  Text : Wanted
  OntologyIri : Wanted
  Annotations : Wanted
  Axioms : Wanted
  DeclarationIn : Wanted
  AssertionIn : Wanted
  AnnotationAxiomIn : Wanted
  AxiomIn : Axiom → Wanted
  AnnotationIn : ℕ → Wanted
  Value : Wanted
  ExprOf : ℕ → Expr → Wanted

-- ---- what one token stands for

-- the token stands for the IRI: in full, or by a prefix that is declared
abbrev pub Means : Known → Kind → List ℕ → Type 0
Means known (FullIri i) iri = iri ≡ i
Means known (Short p l) iri = (base : List ℕ) × (meaning known.prefixes p ≡ Some base) × (iri ≡ base ++ l)
Means known other iri = ⊥

abbrev pub IsAnyIri : Known → Kind → Type 0
IsAnyIri known kind = (iri : List ℕ) × Means known kind iri

-- an anonymous individual with a name
abbrev pub IsNode : Kind → Type 0
IsNode kind = (label : List ℕ) × (kind ≡ Node label) × (label ≢ [])

-- the two roles of the standard that no accepted document has
abbrev pub top_role : List ℕ
top_role = codes "http://www.w3.org/2002/07/owl#topObjectProperty"

abbrev pub bottom_role : List ℕ
bottom_role = codes "http://www.w3.org/2002/07/owl#bottomObjectProperty"

-- the token stands at a place that wants this, and then so much is known
abbrev pub Stands : Known → Wanted → Kind → Known → Type 0
Stands known (Exact k) kind after = (kind ≡ k) × (after ≡ known)
Stands known (AnyWord words) kind after = (w : List ℕ) × (kind ≡ Word w) × Contains words w × (after ≡ known)
Stands known AnyIri kind after = IsAnyIri known kind × (after ≡ known)
Stands known Subject kind after = (IsAnyIri known kind ⊎ IsNode kind) × (after ≡ known)
Stands known (PrefixIri p) kind after =
    (i : List ℕ) × (kind ≡ FullIri i) × ((meaning known.prefixes p ≡ None) ⊎ (meaning known.prefixes p ≡ Some i)) × (after ≡ with_prefix known p i)
Stands known (ClassOf c) kind after = (i : List ℕ) × Means known kind i × (c ≡ number known.classes i) × (after ≡ with_class known i)
Stands known (RoleOf r) kind after =
    (i : List ℕ) × Means known kind i × (i ≢ top_role) × (i ≢ bottom_role) × (r ≡ number known.roles i) × (after ≡ with_role known i)
Stands known (ClosingOf a) kind after = (kind ≡ Closing) × (after ≡ with_axiom known a)
Stands known other kind after = ⊥

-- ---- the lines of the grammar

-- a word and a parenthesis, and what is wanted behind them
abbrev pub opened : List ℕ → List Wanted → List Wanted
opened word inner = Exact (Word word) ∷ Exact Opening ∷ inner

-- an annotation, within which one less than so many may stand inside each other, and then this
abbrev pub IsAnnotated : ℕ → Wanted → List Wanted → Type 0
IsAnnotated zero w parts = ⊥
IsAnnotated (suc n) w parts = parts ≡ opened (codes "Annotation") (AnnotationIn n ∷ w ∷ [])

-- what may be declared beside a class
abbrev pub other_entities : List (List ℕ)
other_entities = codes "Datatype" ∷ codes "ObjectProperty" ∷ codes "DataProperty" ∷ codes "AnnotationProperty" ∷ codes "NamedIndividual" ∷ []

-- the axioms on annotations with two IRIs
abbrev pub annotation_axioms : List (List ℕ)
annotation_axioms = codes "SubAnnotationPropertyOf" ∷ codes "AnnotationPropertyDomain" ∷ codes "AnnotationPropertyRange" ∷ []

-- the word of an axiom and its operands, whose expressions have at most n constructors inside each other: sections 9.1 and 9.2
abbrev pub axiom_form : ℕ → Axiom → Option (List ℕ × List Wanted)
axiom_form n (SubClass c d) = Some (codes "SubClassOf", ExprOf n c ∷ ExprOf n d ∷ [])
axiom_form n (SameClasses (c ∷ d ∷ more)) = Some (codes "EquivalentClasses", map (ExprOf n) (c ∷ d ∷ more))
axiom_form n (Disjoint (c ∷ d ∷ more)) = Some (codes "DisjointClasses", map (ExprOf n) (c ∷ d ∷ more))
axiom_form n (DisjointUnion a (c ∷ d ∷ more)) = Some (codes "DisjointUnion", ClassOf a ∷ map (ExprOf n) (c ∷ d ∷ more))
axiom_form n (SubRole r s) = Some (codes "SubObjectPropertyOf", RoleOf r ∷ RoleOf s ∷ [])
axiom_form n (SameRoles (r ∷ s ∷ more)) = Some (codes "EquivalentObjectProperties", map RoleOf (r ∷ s ∷ more))
axiom_form n (Domain r c) = Some (codes "ObjectPropertyDomain", RoleOf r ∷ ExprOf n c ∷ [])
axiom_form n (Range r c) = Some (codes "ObjectPropertyRange", RoleOf r ∷ ExprOf n c ∷ [])
axiom_form n other = None

-- the expression of a word and its operands: sections 8.1 and 8.2. One operand is enough for an intersection or a union.
abbrev pub IsForm : ℕ → Expr → List ℕ → List Wanted → Type 0
IsForm n e word inner =
    ((c : Expr) × (more : List Expr) × (e ≡ Meet (c ∷ more)) × (word ≡ codes "ObjectIntersectionOf") × (inner ≡ map (ExprOf n) (c ∷ more)))
    ⊎ ((c : Expr) × (more : List Expr) × (e ≡ Join (c ∷ more)) × (word ≡ codes "ObjectUnionOf") × (inner ≡ map (ExprOf n) (c ∷ more)))
    ⊎ ((c : Expr) × (e ≡ Minus c) × (word ≡ codes "ObjectComplementOf") × (inner ≡ ExprOf n c ∷ []))
    ⊎ ((r : ℕ) × (c : Expr) × (e ≡ SomeOf r c) × (word ≡ codes "ObjectSomeValuesFrom") × (inner ≡ RoleOf r ∷ ExprOf n c ∷ []))
    ⊎ ((r : ℕ) × (c : Expr) × (e ≡ AllOf r c) × (word ≡ codes "ObjectAllValuesFrom") × (inner ≡ RoleOf r ∷ ExprOf n c ∷ []))

-- an expression with operands, of at most so many constructors inside each other
abbrev pub IsBuilt : ℕ → Expr → List Wanted → Type 0
IsBuilt zero e parts = ⊥
IsBuilt (suc n) e parts = (word : List ℕ) × (inner : List Wanted) × IsForm n e word inner × (parts ≡ opened word (inner ++ Exact Closing ∷ []))

-- the parts are a line of what is wanted. At most `most` annotations, and as many constructors, stand inside each other.
abbrev pub Line : ℕ → Wanted → List Wanted → Type 0
Line most Text parts =
    ((p : List ℕ) × (parts ≡ opened (codes "Prefix") (Exact (Short p []) ∷ Exact Equals ∷ PrefixIri p ∷ Exact Closing ∷ Text ∷ [])))
    ⊎ (parts ≡ opened (codes "Ontology") (OntologyIri ∷ []))
Line most OntologyIri parts = (parts ≡ Annotations ∷ []) ⊎ (parts ≡ AnyIri ∷ Annotations ∷ []) ⊎ (parts ≡ AnyIri ∷ AnyIri ∷ Annotations ∷ [])
Line most Annotations parts = IsAnnotated most Annotations parts ⊎ (parts ≡ Axioms ∷ [])
Line most Axioms parts =
    (parts ≡ opened (codes "Declaration") (DeclarationIn ∷ Axioms ∷ []))
    ⊎ ((a : Axiom) × (word : List ℕ) × (inner : List Wanted) × (axiom_form most a ≡ Some (word, inner)) × (parts ≡ opened word (AxiomIn a ∷ Axioms ∷ [])))
    ⊎ (parts ≡ opened (codes "AnnotationAssertion") (AssertionIn ∷ Axioms ∷ []))
    ⊎ (parts ≡ AnyWord annotation_axioms ∷ Exact Opening ∷ AnnotationAxiomIn ∷ Axioms ∷ [])
    ⊎ (parts ≡ Exact Closing ∷ [])
Line most DeclarationIn parts =
    IsAnnotated most DeclarationIn parts
    ⊎ ((c : ℕ) × (parts ≡ opened (codes "Class") (ClassOf c ∷ Exact Closing ∷ Exact Closing ∷ [])))
    ⊎ (parts ≡ AnyWord other_entities ∷ Exact Opening ∷ AnyIri ∷ Exact Closing ∷ Exact Closing ∷ [])
Line most AssertionIn parts = IsAnnotated most AssertionIn parts ⊎ (parts ≡ AnyIri ∷ Subject ∷ Value ∷ Exact Closing ∷ [])
Line most AnnotationAxiomIn parts = IsAnnotated most AnnotationAxiomIn parts ⊎ (parts ≡ AnyIri ∷ AnyIri ∷ Exact Closing ∷ [])
Line most (AxiomIn a) parts =
    IsAnnotated most (AxiomIn a) parts
    ⊎ ((word : List ℕ) × (inner : List Wanted) × (axiom_form most a ≡ Some (word, inner)) × (parts ≡ inner ++ ClosingOf a ∷ []))
Line most (AnnotationIn n) parts = IsAnnotated n (AnnotationIn n) parts ⊎ (parts ≡ AnyIri ∷ Value ∷ Exact Closing ∷ [])
Line most Value parts = (parts ≡ Subject ∷ []) ⊎ (parts ≡ Exact Quoted ∷ []) ⊎ (parts ≡ Exact Quoted ∷ Exact Lang ∷ []) ⊎ (parts ≡ Exact Quoted ∷ Exact Carets ∷ AnyIri ∷ [])
Line most (ExprOf n e) parts = ((c : ℕ) × (e ≡ Name c) × (parts ≡ ClassOf c ∷ [])) ⊎ IsBuilt n e parts
Line most other parts = ⊥

-- From what is known and wanted, the tokens lead to what is known and wanted then: one token stands, or one line is chosen, after another.
pub data Leads (most : ℕ) : Known → List Wanted → List Kind → Known → List Wanted → Type 0 where
  here : {known : Known} {wanted : List Wanted} → Leads most known wanted [] known wanted
  one : {known after known' : Known} {w : Wanted} {wanted wanted' : List Wanted} {kind : Kind} {kinds : List Kind}
      → Stands known w kind after → Leads most after wanted kinds known' wanted' → Leads most known (w ∷ wanted) (kind ∷ kinds) known' wanted'
  by_line : {known known' : Known} {w : Wanted} {wanted wanted' : List Wanted} {kinds : List Kind} (parts : List Wanted)
      → Line most w parts → Leads most known (parts ++ wanted) kinds known' wanted' → Leads most known (w ∷ wanted) kinds known' wanted'

-- how many annotations, and how many constructors, may stand inside each other
abbrev pub nesting : ℕ
nesting = 256

-- ---- the document of a text

-- the tokens are those of a document, and so much is known at its end
abbrev pub IsWhole : List Kind → Known → Type 0
IsWhole kinds known = Leads nesting begun (Text ∷ []) kinds known []

-- the text is a document, at whose end so much is known
abbrev pub IsDocument : List ℕ → Known → Type 0
IsDocument bytes known = (pieces : List Piece) × IsCut bytes pieces [] × IsWhole (kinds pieces) known

-- the document has the axioms, and the classes and roles by number, that are known
pub record IsOf (document : Document) (known : Known) : Type 0 where
  pub axioms : document.axioms ≡ known.axioms
  pub classes : document.classes ≡ known.classes
  pub roles : document.roles ≡ known.roles

-- the text is this document
abbrev pub IsRead : List ℕ → Document → Type 0
IsRead bytes document = (known : Known) × IsDocument bytes known × IsOf document known

-- two documents say the same
pub record IsSame (a b : Document) : Type 0 where
  pub axioms : a.axioms ≡ b.axioms
  pub classes : a.classes ≡ b.classes
  pub roles : a.roles ≡ b.roles

-- the text is no other document
abbrev pub IsOnly : List ℕ → Document → Type 0
IsOnly bytes document = (other : Document) → IsRead bytes other → IsSame other document
