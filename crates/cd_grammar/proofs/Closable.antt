-- The machine keeps to stacks that can be completed.
use Rattle.std.proofs.Common.{◌≡◌, ℕ, zero, suc, ◌+◌, Bool, true, false, List, [], ◌∷◌, ◌++◌, length, refl, arith, length-append}
use Rattle.std.specs.Prelude.{Option, Some, None, is_some, if◌then◌else◌}
use Rattle.std.specs.Str.{bytes_eq}
use Rattle.std.specs.Option.{option_map}
use Rattle.cd_meaning.specs.declared.expression.Expr.{Expr}
use Rattle.cd_meaning.specs.declared.expression.Axiom.{Axiom}
use Rattle.cd_meaning.specs.declared.expression.Expr.TheVariants.{Name}
use Rattle.cd_names.specs.Names.{number}
use Rattle.cd_names.specs.Prefixes.{meaning}
use Rattle.cd_syntax.specs.declared.item.Item.{Item}
use Rattle.cd_syntax.specs.declared.item.Item.TheVariants.{Word, Short, FullIri}
use Rattle.cd_syntax.specs.declared.known.Known.{Known}
use Rattle.cd_syntax.specs.declared.operands.Made.{Made}
use Rattle.cd_grammar.specs.declared.symbol.Frame.{Frame}
use Rattle.cd_grammar.specs.declared.symbol.Symbol.{Symbol}
use Rattle.cd_grammar.specs.declared.symbol.Symbol.TheVariants.{Opening, Closing, Equals, End, Iri, Class, Document, Binding, VersionIri, QuotedEnd, Inside}
use Rattle.cd_syntax.specs.declared.words.ExprForm.{ExprForm}
use Rattle.cd_syntax.specs.declared.words.Form.{Form}
use Rattle.cd_syntax.specs.declared.words.Keyword.{Keyword}
use Rattle.cd_syntax.specs.Grammar.{with_role, with_prefix}
use Rattle.cd_syntax.specs.Operands.{has_class_head, axiom_of, expression_of, made_of}
use Rattle.cd_syntax.specs.Named.{iri_of, is_subject, is_role}
use Rattle.cd_grammar.specs.Machine.{State, taken_if, class_taken, bound, noted, bare, with_head, wants_head_next, wants_part_next, given, closed, deeper, head_taken, part_taken, operand_taken, inside_taken, axioms_taken, notes_taken, ontology_iri_taken, advance}
use Rattle.cd_grammar.proofs.Pending.{IsPending, pending_bare, handed_on}
use Rattle.cd_grammar.proofs.Closes.{IsClosable}

-- a state whose stack can be completed, if there is one
abbrev pub Keeps : Option State → Type 0
Keeps None = Unit {0}
Keeps (Some state) = IsClosable 0 state.1

-- a state that is taken on a test
keeps_if : (b : Bool) (state : State) → IsClosable 0 state.1 → Keeps (taken_if b state)
keeps_if true state closable = closable
keeps_if false state closable = tt

-- a class
keeps_class : (known : Known) (stack : List Symbol) (iri : Option (List ℕ)) → IsClosable 0 stack → Keeps (class_taken known stack iri)
keeps_class known stack None closable = tt
keeps_class known stack (Some i) closable = closable

-- the IRI of a prefix
keeps_bound : (known : Known) (p i : List ℕ) (stack : List Symbol) (iri : Option (List ℕ)) → IsClosable 0 stack → Keeps (bound known p i stack iri)
keeps_bound known p i stack None closable = closable
keeps_bound known p i stack (Some j) closable = keeps_if (bytes_eq j i) (with_prefix known p i, stack) closable

-- the word of an annotation
keeps_noted : (n : ℕ) (known : Known) (stack : List Symbol) → IsClosable 0 stack → Keeps (noted n known stack)
keeps_noted zero known stack closable = tt
keeps_noted (suc n) known stack closable = (refl, (refl, closable))

-- what axioms begin with
keeps_axioms : (known : Known) (item : Item) (stack : List Symbol) → IsClosable 0 stack → Keeps (axioms_taken known item stack)
keeps_axioms known (Word Keyword.Declaration) stack closable = (refl, (refl, (refl, closable)))
keeps_axioms known (Word (Keyword.Axiom form)) stack closable = (refl, (refl, (refl, closable)))
keeps_axioms known (Word Keyword.AnnotationAssertion) stack closable = (refl, (refl, (refl, closable)))
keeps_axioms known (Word Keyword.AnnotationAxiom) stack closable = (refl, (refl, (refl, closable)))
keeps_axioms known Item.Closing stack closable = (refl, closable)
keeps_axioms known item stack closable = tt

-- what annotations and axioms begin with
keeps_notes : (most : ℕ) (known : Known) (item : Item) (stack : List Symbol) → IsClosable 0 stack → Keeps (notes_taken most known item stack)
keeps_notes most known (Word Keyword.Annotation) stack closable = keeps_noted most known (Symbol.Annotations ∷ stack) (refl, closable)
keeps_notes most known item stack closable = keeps_axioms known item stack closable

-- an IRI of the ontology, or what follows it
keeps_ontology : (most : ℕ) (known : Known) (item : Item) (next : Symbol) (stack : List Symbol) → IsClosable 0 stack → IsClosable 0 (next ∷ stack)
    → Keeps (ontology_iri_taken most known item next stack)
keeps_ontology most known (FullIri i) next stack below closable = closable
keeps_ontology most known (Short p l) next stack below closable = keeps_if (is_some (iri_of known (Short p l))) (known, next ∷ stack) closable
keeps_ontology most known item next stack below closable = keeps_notes most known item stack below

-- ---- operands

-- with a head more, the operands can be completed
pub head_pending : (frame : Frame) (h : ℕ) → wants_head_next frame ≡ true → IsPending frame.form (length (frame.heads ++ h ∷ [])) (length frame.parts + 0)
head_pending frame h wants = simp length-append (grind arith)

-- so they can with a part more
part_pending : (frame : Frame) → wants_part_next frame ≡ true → IsPending frame.form (length frame.heads) (length frame.parts + 1)
part_pending frame wants = grind arith

-- a part that is given is one more
with_part_pending : (frame : Frame) (e : Expr) → IsPending frame.form (length frame.heads) (length frame.parts + 1)
    → IsPending frame.form (length frame.heads) (length (frame.parts ++ e ∷ []) + 0)
with_part_pending frame e pending = simp length-append (grind arith)

-- an expression is given to the operands that want it
keeps_given : (known : Known) (e : Expr) (stack : List Symbol) → IsClosable 1 stack → Keeps (given known e stack)
keeps_given known e (Inside frame ∷ stack) closable = (with_part_pending frame e closable.0, closable.1)
keeps_given known e stack closable = tt

-- an axiom ends
keeps_axiom : (known : Known) (o : Option Axiom) (stack : List Symbol) → IsClosable 0 stack → Keeps (closed known (option_map Made.Axiom o) stack)
keeps_axiom known None stack closable = tt
keeps_axiom known (Some a) stack closable = closable

-- an expression ends
keeps_expression : (known : Known) (o : Option Expr) (stack : List Symbol) → IsClosable 1 stack → Keeps (closed known (option_map Made.Expr o) stack)
keeps_expression known None stack closable = tt
keeps_expression known (Some e) stack closable = keeps_given known e stack closable

-- operands end
keeps_closed : (known : Known) (form : Form) (heads : List ℕ) (parts : List Expr) (stack : List Symbol) → IsClosable (handed_on form) stack
    → Keeps (closed known (made_of form heads parts) stack)
keeps_closed known (Form.Axiom form) heads parts stack closable = keeps_axiom known (axiom_of form heads parts) stack closable
keeps_closed known (Form.Expr form) heads parts stack closable = keeps_expression known (expression_of form heads parts) stack closable

-- an expression begins
keeps_deeper : (n : ℕ) (known : Known) (form : ExprForm) (frame : Frame) (stack : List Symbol) (wants : Bool) → wants_part_next frame ≡ wants
    → IsClosable (handed_on frame.form) stack
    → Keeps (deeper wants n known form (Inside frame ∷ stack))
keeps_deeper n known form frame stack false e closable = tt
keeps_deeper zero known form frame stack true e closable = tt
keeps_deeper (suc n) known form frame stack true e closable = (refl, (pending_bare (Form.Expr form), (part_pending frame e, closable)))

-- a role, or a class in its place
keeps_head : (is_class : Bool) (known : Known) (frame : Frame) (stack : List Symbol) (i : List ℕ) → wants_head_next frame ≡ true → IsClosable (handed_on frame.form) stack
    → Keeps (head_taken is_class known frame stack i)
keeps_head true known frame stack i e closable = (head_pending frame (number known.classes i) e, closable)
keeps_head false known frame stack i e closable =
    keeps_if (is_role i) (with_role known i, Inside (with_head frame (number known.roles i)) ∷ stack) (head_pending frame (number known.roles i) e, closable)

-- a named class
keeps_part : (known : Known) (frame : Frame) (stack : List Symbol) (i : List ℕ) (wants : Bool) → wants_part_next frame ≡ wants → IsClosable (handed_on frame.form) stack
    → Keeps (if wants then part_taken known frame stack i else None)
keeps_part known frame stack i true e closable = (with_part_pending frame (Name (number known.classes i)) (part_pending frame e), closable)
keeps_part known frame stack i false e closable = tt

-- an IRI where a head is wanted, or a part
keeps_operand_by : (known : Known) (frame : Frame) (stack : List Symbol) (i : List ℕ) (wants : Bool) → wants_head_next frame ≡ wants
    → IsClosable (handed_on frame.form) stack
    → Keeps (if wants then head_taken (has_class_head frame.form) known frame stack i else (if wants_part_next frame then part_taken known frame stack i else None))
keeps_operand_by known frame stack i true e closable = keeps_head (has_class_head frame.form) known frame stack i e closable
keeps_operand_by known frame stack i false e closable = keeps_part known frame stack i (wants_part_next frame) refl closable

-- an operand that is an IRI
keeps_operand : (known : Known) (frame : Frame) (stack : List Symbol) (iri : Option (List ℕ)) → IsClosable (handed_on frame.form) stack
    → Keeps (operand_taken known frame stack iri)
keeps_operand known frame stack None closable = tt
keeps_operand known frame stack (Some i) closable = keeps_operand_by known frame stack i (wants_head_next frame) refl closable

-- an item behind operands
keeps_inside : (known : Known) (frame : Frame) (item : Item) (stack : List Symbol) → IsClosable (handed_on frame.form) stack → Keeps (inside_taken known frame item stack)
keeps_inside known frame Item.Closing stack closable = keeps_closed known frame.form frame.heads frame.parts stack closable
keeps_inside known frame (Word (Keyword.Expr form)) stack closable = keeps_deeper frame.nesting known form frame stack (wants_part_next frame) refl closable
keeps_inside known frame item stack closable = keeps_operand known frame stack (iri_of known item) closable

-- ---- one item

-- an item leads from a stack that can be completed to another
pub keeps : (most : ℕ) (known : Known) (s : Symbol) (item : Item) (stack : List Symbol) → IsClosable 0 (s ∷ stack) → Keeps (advance most known s item stack)
keeps most known Opening Item.Opening stack closable = closable.1
keeps most known Closing Item.Closing stack closable = closable.1
keeps most known Equals Item.Equals stack closable = closable.1
keeps most known End Item.End stack closable = closable.1
keeps most known Iri item stack closable = keeps_if (is_some (iri_of known item)) (known, stack) closable.1
keeps most known Symbol.Subject item stack closable = keeps_if (is_subject known item) (known, stack) closable.1
keeps most known Class item stack closable = keeps_class known stack (iri_of known item) closable.1
keeps most known (Symbol.PrefixIri p) (FullIri i) stack closable = keeps_bound known p i stack (meaning known.prefixes p) closable.1
keeps most known Document (Word Keyword.Prefix) stack closable = (refl, (refl, closable.1))
keeps most known Document (Word Keyword.Ontology) stack closable = (refl, (refl, closable.1))
keeps most known Binding (Short p []) stack closable = (refl, (refl, (refl, (refl, closable.1))))
keeps most known Symbol.OntologyIri item stack closable = keeps_ontology most known item VersionIri stack closable.1 (refl, closable.1)
keeps most known VersionIri item stack closable = keeps_ontology most known item Symbol.Annotations stack closable.1 (refl, closable.1)
keeps most known Symbol.Annotations item stack closable = keeps_notes most known item stack closable.1
keeps most known Symbol.Axioms item stack closable = keeps_axioms known item stack closable.1
keeps most known Symbol.DeclarationIn (Word Keyword.Annotation) stack closable = keeps_noted most known (Symbol.DeclarationIn ∷ stack) (refl, closable.1)
keeps most known Symbol.DeclarationIn (Word Keyword.Class) stack closable = (refl, (refl, (refl, (refl, closable.1))))
keeps most known Symbol.DeclarationIn (Word Keyword.Entity) stack closable = (refl, (refl, (refl, (refl, closable.1))))
keeps most known Symbol.AssertionIn (Word Keyword.Annotation) stack closable = keeps_noted most known (Symbol.AssertionIn ∷ stack) (refl, closable.1)
keeps most known Symbol.AssertionIn item stack closable = keeps_if (is_some (iri_of known item)) (known, Symbol.Subject ∷ Symbol.Value ∷ stack) (refl, (refl, closable.1))
keeps most known Symbol.AnnotationAxiomIn (Word Keyword.Annotation) stack closable = keeps_noted most known (Symbol.AnnotationAxiomIn ∷ stack) (refl, closable.1)
keeps most known Symbol.AnnotationAxiomIn item stack closable = keeps_if (is_some (iri_of known item)) (known, Iri ∷ Closing ∷ stack) (refl, (refl, closable.1))
keeps most known (Symbol.AnnotationIn n) (Word Keyword.Annotation) stack closable = keeps_noted n known (Symbol.AnnotationIn n ∷ stack) (refl, closable.1)
keeps most known (Symbol.AnnotationIn n) item stack closable = keeps_if (is_some (iri_of known item)) (known, Symbol.Value ∷ stack) (refl, closable.1)
keeps most known Symbol.Value Item.Quoted stack closable = (refl, closable.1)
keeps most known Symbol.Value item stack closable = keeps_if (is_subject known item) (known, Closing ∷ stack) (refl, closable.1)
keeps most known QuotedEnd Item.Closing stack closable = closable.1
keeps most known QuotedEnd Item.Lang stack closable = (refl, closable.1)
keeps most known QuotedEnd Item.Carets stack closable = (refl, (refl, closable.1))
keeps most known (Symbol.AxiomIn form) (Word Keyword.Annotation) stack closable = keeps_noted most known (Symbol.AxiomIn form ∷ stack) (refl, closable.1)
keeps most known (Symbol.AxiomIn form) item stack closable = keeps_inside known (bare (Form.Axiom form) most) item stack closable.1
keeps most known (Inside frame) item stack closable = keeps_inside known frame item stack closable.1
keeps most known s item stack closable = tt
