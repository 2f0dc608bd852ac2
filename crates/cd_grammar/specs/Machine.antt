-- The grammar as a machine that takes an item at a time. What is wanted next stands first. The definitions of documents don't speak of
-- it: proofs/ shows that it takes exactly the documents.
use Rattle.std.specs.Prelude.{◌≡◌, ℕ, zero, suc, Bool, true, false, if◌then◌else◌, List, [], ◌∷◌, ◌++◌, length, Option, Some, None, is_some}
use Rattle.std.specs.Str.{bytes_eq}
use Rattle.cd_meaning.specs.declared.expression.Expr.{Expr}
use Rattle.cd_meaning.specs.declared.expression.Expr.TheVariants.{Name}
use Rattle.cd_names.specs.Names.{number}
use Rattle.cd_names.specs.Prefixes.{meaning}
use Rattle.cd_syntax.specs.declared.item.Item.{Item}
use Rattle.cd_syntax.specs.declared.item.Item.TheVariants.{Word, Short, FullIri}
use Rattle.cd_syntax.specs.declared.known.Known.{Known}
use Rattle.cd_syntax.specs.declared.operands.Made.{Made}
use Rattle.cd_grammar.specs.declared.symbol.Frame.{Frame}
use Rattle.cd_grammar.specs.declared.symbol.Symbol.{Symbol}
use Rattle.cd_grammar.specs.declared.symbol.Symbol.TheVariants.{Opening, Closing, Equals, End, Iri, Subject, Class, PrefixIri, Document, Binding, OntologyIri, VersionIri, Annotations, Axioms, DeclarationIn, AssertionIn, AnnotationAxiomIn, AnnotationIn, Value, QuotedEnd, AxiomIn, Inside}
use Rattle.cd_syntax.specs.declared.words.ExprForm.{ExprForm}
use Rattle.cd_syntax.specs.declared.words.Form.{Form}
use Rattle.cd_syntax.specs.declared.words.Keyword.{Keyword}
use Rattle.cd_syntax.specs.Grammar.{begun, with_prefix, with_class, with_role, with_axiom}
use Rattle.cd_syntax.specs.Named.{iri_of, is_subject, is_role}
use Rattle.cd_syntax.specs.Operands.{wants_head, wants_part, has_class_head, made_of}

-- what is known, and what is wanted
abbrev pub State : Type 0
State = Known × List Symbol

abbrev pub taken_if : Bool → State → Option State
taken_if true state = Some state
taken_if false state = None

-- an item that stands for an IRI
abbrev pub by_iri : Option (List ℕ) → State → Option State
by_iri iri state = taken_if (is_some iri) state

abbrev pub class_taken : Known → List Symbol → Option (List ℕ) → Option State
class_taken known stack None = None
class_taken known stack (Some i) = Some (with_class known i, stack)

-- the IRI of a prefix that stands for none yet, or for one
abbrev pub bound : Known → List ℕ → List ℕ → List Symbol → Option (List ℕ) → Option State
bound known p i stack None = Some (with_prefix known p i, stack)
bound known p i stack (Some j) = taken_if (bytes_eq j i) (with_prefix known p i, stack)

-- ---- annotations

-- the word of an annotation, where so many more may stand inside each other
abbrev pub noted : ℕ → Known → List Symbol → Option State
noted zero known stack = None
noted (suc n) known stack = Some (known, Opening ∷ AnnotationIn n ∷ stack)

-- ---- operands

-- operands of this form, of which none came yet
abbrev pub bare : Form → ℕ → Frame
bare form n = record { form = form; nesting = n; heads = []; parts = [] }

abbrev pub with_head : Frame → ℕ → Frame
with_head frame h = record frame { heads = frame.heads ++ h ∷ [] }

abbrev pub with_part : Frame → Expr → Frame
with_part frame e = record frame { parts = frame.parts ++ e ∷ [] }

abbrev pub wants_head_next : Frame → Bool
wants_head_next frame = wants_head frame.form (length frame.heads) (length frame.parts)

abbrev pub wants_part_next : Frame → Bool
wants_part_next frame = wants_part frame.form (length frame.heads) (length frame.parts)

-- the expression is the next part of what is wanted first
abbrev pub given : Known → Expr → List Symbol → Option State
given known e (Inside frame ∷ stack) = Some (known, Inside (with_part frame e) ∷ stack)
given known e stack = None

abbrev pub closed : Known → Option Made → List Symbol → Option State
closed known None stack = None
closed known (Some (Made.Axiom a)) stack = Some (with_axiom known a, stack)
closed known (Some (Made.Expr e)) stack = given known e stack

-- the word of an expression, where it is wanted and so many may stand inside each other
abbrev pub deeper : Bool → ℕ → Known → ExprForm → List Symbol → Option State
deeper false n known form stack = None
deeper true zero known form stack = None
deeper true (suc n) known form stack =
    Some (known, Opening ∷ Inside (bare (Form.Expr form) n) ∷ stack)

-- a role, or a class in its place
abbrev pub head_taken : Bool → Known → Frame → List Symbol → List ℕ → Option State
head_taken true known frame stack i =
    Some (with_class known i, Inside (with_head frame (number known.classes i)) ∷ stack)
head_taken false known frame stack i =
    taken_if (is_role i) (
      with_role known i,
      Inside (with_head frame (number known.roles i)) ∷ stack,
    )

-- a named class
abbrev pub part_taken : Known → Frame → List Symbol → List ℕ → Option State
part_taken known frame stack i =
    Some (with_class known i, Inside (with_part frame (Name (number known.classes i))) ∷ stack)

abbrev pub operand_taken : Known → Frame → List Symbol → Option (List ℕ) → Option State
operand_taken known frame stack None = None
operand_taken known frame stack (Some i) =
    if wants_head_next frame then head_taken (has_class_head frame.form) known frame stack i
    else (if wants_part_next frame then part_taken known frame stack i else None)

-- an item behind these operands
abbrev pub inside_taken : Known → Frame → Item → List Symbol → Option State
inside_taken known frame Item.Closing stack =
    closed known (made_of frame.form frame.heads frame.parts) stack
inside_taken known frame (Word (Keyword.Expr e)) stack =
    deeper (wants_part_next frame) frame.nesting known e (Inside frame ∷ stack)
inside_taken known frame item stack = operand_taken known frame stack (iri_of known item)

-- ---- one item

abbrev pub axioms_taken : Known → Item → List Symbol → Option State
axioms_taken known (Word Keyword.Declaration) stack =
    Some (known, Opening ∷ DeclarationIn ∷ Axioms ∷ stack)
axioms_taken known (Word (Keyword.Axiom form)) stack =
    Some (known, Opening ∷ AxiomIn form ∷ Axioms ∷ stack)
axioms_taken known (Word Keyword.AnnotationAssertion) stack =
    Some (known, Opening ∷ AssertionIn ∷ Axioms ∷ stack)
axioms_taken known (Word Keyword.AnnotationAxiom) stack =
    Some (known, Opening ∷ AnnotationAxiomIn ∷ Axioms ∷ stack)
axioms_taken known Item.Closing stack = Some (known, End ∷ stack)
axioms_taken known item stack = None

abbrev pub notes_taken : ℕ → Known → Item → List Symbol → Option State
notes_taken most known (Word Keyword.Annotation) stack = noted most known (Annotations ∷ stack)
notes_taken most known item stack = axioms_taken known item stack

-- an IRI, and then the second symbol, or what the ontology's annotations begin with
abbrev pub ontology_iri_taken : ℕ → Known → Item → Symbol → List Symbol → Option State
ontology_iri_taken most known (FullIri i) next stack = Some (known, next ∷ stack)
ontology_iri_taken most known (Short p l) next stack =
    by_iri (iri_of known (Short p l)) (known, next ∷ stack)
ontology_iri_taken most known item next stack = notes_taken most known item stack

-- what the item leads to at the place of the symbol, with this wanted behind it
abbrev pub advance : ℕ → Known → Symbol → Item → List Symbol → Option State
advance most known Opening Item.Opening stack = Some (known, stack)
advance most known Closing Item.Closing stack = Some (known, stack)
advance most known Equals Item.Equals stack = Some (known, stack)
advance most known End Item.End stack = Some (known, stack)
advance most known Iri item stack = by_iri (iri_of known item) (known, stack)
advance most known Subject item stack = taken_if (is_subject known item) (known, stack)
advance most known Class item stack = class_taken known stack (iri_of known item)
advance most known (PrefixIri p) (FullIri i) stack =
    bound known p i stack (meaning known.prefixes p)
advance most known Document (Word Keyword.Prefix) stack = Some (known, Opening ∷ Binding ∷ stack)
advance most known Document (Word Keyword.Ontology) stack =
    Some (known, Opening ∷ OntologyIri ∷ stack)
advance most known Binding (Short p []) stack =
    Some (known, Equals ∷ PrefixIri p ∷ Closing ∷ Document ∷ stack)
advance most known OntologyIri item stack = ontology_iri_taken most known item VersionIri stack
advance most known VersionIri item stack = ontology_iri_taken most known item Annotations stack
advance most known Annotations item stack = notes_taken most known item stack
advance most known Axioms item stack = axioms_taken known item stack
advance most known DeclarationIn (Word Keyword.Annotation) stack =
    noted most known (DeclarationIn ∷ stack)
advance most known DeclarationIn (Word Keyword.Class) stack =
    Some (known, Opening ∷ Class ∷ Closing ∷ Closing ∷ stack)
advance most known DeclarationIn (Word Keyword.Entity) stack =
    Some (known, Opening ∷ Iri ∷ Closing ∷ Closing ∷ stack)
advance most known AssertionIn (Word Keyword.Annotation) stack =
    noted most known (AssertionIn ∷ stack)
advance most known AssertionIn item stack =
    by_iri (iri_of known item) (known, Subject ∷ Value ∷ stack)
advance most known AnnotationAxiomIn (Word Keyword.Annotation) stack =
    noted most known (AnnotationAxiomIn ∷ stack)
advance most known AnnotationAxiomIn item stack =
    by_iri (iri_of known item) (known, Iri ∷ Closing ∷ stack)
advance most known (AnnotationIn n) (Word Keyword.Annotation) stack =
    noted n known (AnnotationIn n ∷ stack)
advance most known (AnnotationIn n) item stack = by_iri (iri_of known item) (known, Value ∷ stack)
advance most known Value Item.Quoted stack = Some (known, QuotedEnd ∷ stack)
advance most known Value item stack = taken_if (is_subject known item) (known, Closing ∷ stack)
advance most known QuotedEnd Item.Closing stack = Some (known, stack)
advance most known QuotedEnd Item.Lang stack = Some (known, Closing ∷ stack)
advance most known QuotedEnd Item.Carets stack = Some (known, Iri ∷ Closing ∷ stack)
advance most known (AxiomIn form) (Word Keyword.Annotation) stack =
    noted most known (AxiomIn form ∷ stack)
advance most known (AxiomIn form) item stack =
    inside_taken known (bare (Form.Axiom form) most) item stack
advance most known (Inside frame) item stack = inside_taken known frame item stack
advance most known symbol item stack = None

abbrev pub step : ℕ → Option State → Item → Option State
step most None item = None
step most (Some (known, [])) item = None
step most (Some (known, symbol ∷ stack)) item = advance most known symbol item stack

-- the state behind some items; none, where one of them could not be taken
abbrev pub after : ℕ → Option State → List Item → Option State
after most state [] = state
after most state (item ∷ items) = after most (step most state item) items

abbrev pub start : Option State
start = Some (begun, Document ∷ [])

-- ---- what the calls of the parser tell

-- the state behind an item, if it is taken; otherwise what is known stays
abbrev pub IsTaken : Option State → Known → Known → List Symbol → Bool → Type 0
IsTaken None known after stack ok = (ok ≡ false) × (after ≡ known)
IsTaken (Some state) known after stack ok = (ok ≡ true) × (after ≡ state.0) × (stack ≡ state.1)

-- the item is the mark that is wanted
abbrev pub is_mark : Symbol → Item → Bool
is_mark Opening Item.Opening = true
is_mark Closing Item.Closing = true
is_mark Equals Item.Equals = true
is_mark End Item.End = true
is_mark symbol item = false

-- the symbol leaves what is known as it is
abbrev pub is_plain : Symbol → Bool
is_plain Class = false
is_plain (PrefixIri p) = false
is_plain (AxiomIn form) = false
is_plain (Inside frame) = false
is_plain symbol = true
