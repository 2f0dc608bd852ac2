-- The machine where one more may stand inside each other.
use Rattle.std.proofs.Common.{◌≡◌, ℕ, zero, suc, Bool, true, false, List, [], ◌∷◌, map, refl, sym, ap, ◌∙◌, subst}
use Rattle.std.specs.Prelude.{Option, Some, None, is_some, ◌&&◌, if◌then◌else◌}
use Rattle.std.specs.Str.{bytes_eq}
use Rattle.cd_meaning.specs.declared.expression.Expr.{Expr}
use Rattle.cd_names.specs.Names.{number}
use Rattle.cd_names.specs.Prefixes.{meaning}
use Rattle.cd_syntax.specs.declared.item.Item.{Item}
use Rattle.cd_syntax.specs.declared.item.Item.TheVariants.{Word, Short, FullIri}
use Rattle.cd_syntax.specs.declared.known.Known.{Known}
use Rattle.cd_syntax.specs.declared.operands.Made.{Made}
use Rattle.cd_grammar.specs.declared.symbol.Frame.{Frame}
use Rattle.cd_grammar.specs.declared.symbol.Symbol.{Symbol}
use Rattle.cd_grammar.specs.declared.symbol.Symbol.TheVariants.{Opening, Closing, Equals, End, Iri, Subject, Class, PrefixIri, Document, Binding, OntologyIri, VersionIri, Annotations, Axioms, DeclarationIn, AssertionIn, AnnotationAxiomIn, AnnotationIn, Value, QuotedEnd, AxiomIn, Inside}
use Rattle.cd_syntax.specs.declared.words.ExprForm.{ExprForm}
use Rattle.cd_syntax.specs.declared.words.Form.{Form}
use Rattle.cd_syntax.specs.declared.words.Keyword.{Keyword}
use Rattle.cd_grammar.specs.Causes.{is_zero, is_over}
use Rattle.cd_syntax.specs.Grammar.{begun, with_prefix, with_role}
use Rattle.cd_syntax.specs.Operands.{has_class_head, made_of}
use Rattle.cd_syntax.specs.Named.{iri_of, is_subject, is_role}
use Rattle.cd_grammar.specs.Machine.{State, taken_if, by_iri, class_taken, bound, noted, bare, with_head, wants_head_next, wants_part_next, given, closed, deeper, head_taken, part_taken, operand_taken, inside_taken, axioms_taken, notes_taken, ontology_iri_taken, advance, step, after, start}
use Rattle.cd_grammar.proofs.Runs.{began}

-- one more may stand inside each other in the operands
abbrev pub raised_frame : Frame → Frame
raised_frame frame = record frame { nesting = suc frame.nesting }

-- one more may stand inside each other at the symbol
abbrev pub raise : Symbol → Symbol
raise (AnnotationIn n) = AnnotationIn (suc n)
raise (Inside frame) = Inside (raised_frame frame)
raise symbol = symbol

-- and at each symbol of the stack
abbrev pub raised : List Symbol → List Symbol
raised stack = map raise stack

-- the second state is the first, raised; where there is none, there is a second one exactly if only the limit was in the way
abbrev pub IsRaised : Bool → Option State → Option State → Type 0
IsRaised over (Some state) above = above ≡ Some (state.0, raised state.1)
IsRaised true None above = is_some above ≡ true
IsRaised false None above = above ≡ None

-- a state that is taken on a test
raises_if : (b : Bool) (known : Known) (stack : List Symbol) → IsRaised false (taken_if b (known, stack)) (taken_if b (known, raised stack))
raises_if true known stack = refl
raises_if false known stack = refl

-- a class
raises_class : (known : Known) (stack : List Symbol) (iri : Option (List ℕ)) → IsRaised false (class_taken known stack iri) (class_taken known (raised stack) iri)
raises_class known stack None = refl
raises_class known stack (Some i) = refl

-- the IRI of a prefix
raises_bound : (known : Known) (p i : List ℕ) (stack : List Symbol) (iri : Option (List ℕ))
    → IsRaised false (bound known p i stack iri) (bound known p i (raised stack) iri)
raises_bound known p i stack None = refl
raises_bound known p i stack (Some j) = raises_if (bytes_eq j i) (with_prefix known p i) stack

-- what axioms begin with
raises_axioms : (known : Known) (item : Item) (stack : List Symbol) → IsRaised false (axioms_taken known item stack) (axioms_taken known item (raised stack))
raises_axioms known (Word Keyword.Declaration) stack = refl
raises_axioms known (Word (Keyword.Axiom form)) stack = refl
raises_axioms known (Word Keyword.AnnotationAssertion) stack = refl
raises_axioms known (Word Keyword.AnnotationAxiom) stack = refl
raises_axioms known Item.Closing stack = refl
raises_axioms known item stack = refl

-- what annotations and axioms begin with
raises_notes : (n : ℕ) (known : Known) (item : Item) (stack : List Symbol)
    → IsRaised false (notes_taken (suc n) known item stack) (notes_taken (suc (suc n)) known item (raised stack))
raises_notes n known (Word Keyword.Annotation) stack = refl
raises_notes n known item stack = raises_axioms known item stack

-- an IRI of the ontology, or what follows it
raises_ontology : (n : ℕ) (known : Known) (item : Item) (next : Symbol) (stack : List Symbol) → raise next ≡ next
    → IsRaised false (ontology_iri_taken (suc n) known item next stack) (ontology_iri_taken (suc (suc n)) known item next (raised stack))
raises_ontology n known (FullIri i) next stack same = ap (λ (s : Symbol). Some (known, s ∷ raised stack)) (sym same)
raises_ontology n known (Short p l) next stack same =
    subst (λ (s : Symbol). IsRaised false (by_iri (iri_of known (Short p l)) (known, next ∷ stack)) (by_iri (iri_of known (Short p l)) (known, s ∷ raised stack))) same
    (raises_if (is_some (iri_of known (Short p l))) known (next ∷ stack))
raises_ontology n known item next stack same = raises_notes n known item stack

-- ---- operands

-- an expression is given to the operands that want it
raises_given : (known : Known) (e : Expr) (stack : List Symbol) → IsRaised false (given known e stack) (given known e (raised stack))
raises_given known e [] = refl
raises_given known e (Inside frame ∷ stack) = refl
raises_given known e (s ∷ stack) = refl

-- operands end
raises_closed : (known : Known) (made : Option Made) (stack : List Symbol) → IsRaised false (closed known made stack) (closed known made (raised stack))
raises_closed known None stack = refl
raises_closed known (Some (Made.Axiom a)) stack = refl
raises_closed known (Some (Made.Expr e)) stack = raises_given known e stack

-- an expression begins, unless the limit is in the way
raises_deeper : (wants : Bool) (n : ℕ) (known : Known) (form : ExprForm) (frame : Frame) (stack : List Symbol)
    → IsRaised (wants && is_zero n) (deeper wants n known form (Inside frame ∷ stack)) (deeper wants (suc n) known form (raised (Inside frame ∷ stack)))
raises_deeper false n known form frame stack = refl
raises_deeper true zero known form frame stack = refl
raises_deeper true (suc n) known form frame stack = refl

-- within an axiom, the limit isn't in the way
raises_first : (wants : Bool) (n : ℕ) (known : Known) (form : ExprForm) (frame : Frame) (stack : List Symbol)
    → IsRaised false (deeper wants (suc n) known form (Inside frame ∷ stack)) (deeper wants (suc (suc n)) known form (raised (Inside frame ∷ stack)))
raises_first false n known form frame stack = refl
raises_first true n known form frame stack = refl

-- a role, or a class in its place
raises_head : (is_class : Bool) (known : Known) (frame : Frame) (stack : List Symbol) (i : List ℕ)
    → IsRaised false (head_taken is_class known frame stack i) (head_taken is_class known (raised_frame frame) (raised stack) i)
raises_head true known frame stack i = refl
raises_head false known frame stack i = raises_if (is_role i) (with_role known i) (Inside (with_head frame (number known.roles i)) ∷ stack)

-- one of two, by a test
raises_choice : (b : Bool) (one other one' other' : Option State) → IsRaised false one one' → IsRaised false other other'
    → IsRaised false (if b then one else other) (if b then one' else other')
raises_choice true one other one' other' first second = first
raises_choice false one other one' other' first second = second

-- an operand that is an IRI
raises_operand : (known : Known) (frame : Frame) (stack : List Symbol) (iri : Option (List ℕ))
    → IsRaised false (operand_taken known frame stack iri) (operand_taken known (raised_frame frame) (raised stack) iri)
raises_operand known frame stack None = refl
raises_operand known frame stack (Some i) =
    raises_choice (wants_head_next frame) (head_taken (has_class_head frame.form) known frame stack i) (if wants_part_next frame then part_taken known frame stack i else None)
    (head_taken (has_class_head frame.form) known (raised_frame frame) (raised stack) i)
    (if wants_part_next frame then part_taken known (raised_frame frame) (raised stack) i else None)
    (raises_head (has_class_head frame.form) known frame stack i)
    (raises_choice (wants_part_next frame) (part_taken known frame stack i) None (part_taken known (raised_frame frame) (raised stack) i) None refl refl)

-- an item behind operands
raises_inside : (known : Known) (frame : Frame) (item : Item) (stack : List Symbol)
    → IsRaised (is_over (Inside frame) item) (inside_taken known frame item stack) (inside_taken known (raised_frame frame) item (raised stack))
raises_inside known frame Item.Closing stack = raises_closed known (made_of frame.form frame.heads frame.parts) stack
raises_inside known frame (Word (Keyword.Expr form)) stack = raises_deeper (wants_part_next frame) frame.nesting known form frame stack
raises_inside known frame item stack = raises_operand known frame stack (iri_of known item)

-- ---- one item

-- an annotation of an annotation, unless the limit is in the way
raises_note : (n : ℕ) (known : Known) (stack : List Symbol) → IsRaised (is_zero n) (noted n known (AnnotationIn n ∷ stack)) (noted (suc n) known (raised (AnnotationIn n ∷ stack)))
raises_note zero known stack = refl
raises_note (suc n) known stack = refl

-- each symbol and item
raises : (n : ℕ) (known : Known) (s : Symbol) (item : Item) (stack : List Symbol)
    → IsRaised (is_over s item) (advance (suc n) known s item stack) (advance (suc (suc n)) known (raise s) item (raised stack))
raises n known Opening Item.Opening stack = refl
raises n known Closing Item.Closing stack = refl
raises n known Equals Item.Equals stack = refl
raises n known End Item.End stack = refl
raises n known Iri item stack = raises_if (is_some (iri_of known item)) known stack
raises n known Subject item stack = raises_if (is_subject known item) known stack
raises n known Class item stack = raises_class known stack (iri_of known item)
raises n known (PrefixIri p) (FullIri i) stack = raises_bound known p i stack (meaning known.prefixes p)
raises n known Document (Word Keyword.Prefix) stack = refl
raises n known Document (Word Keyword.Ontology) stack = refl
raises n known Binding (Short p []) stack = refl
raises n known OntologyIri item stack = raises_ontology n known item VersionIri stack refl
raises n known VersionIri item stack = raises_ontology n known item Annotations stack refl
raises n known Annotations item stack = raises_notes n known item stack
raises n known Axioms item stack = raises_axioms known item stack
raises n known DeclarationIn (Word Keyword.Annotation) stack = refl
raises n known DeclarationIn (Word Keyword.Class) stack = refl
raises n known DeclarationIn (Word Keyword.Entity) stack = refl
raises n known AssertionIn (Word Keyword.Annotation) stack = refl
raises n known AssertionIn item stack = raises_if (is_some (iri_of known item)) known (Subject ∷ Value ∷ stack)
raises n known AnnotationAxiomIn (Word Keyword.Annotation) stack = refl
raises n known AnnotationAxiomIn item stack = raises_if (is_some (iri_of known item)) known (Iri ∷ Closing ∷ stack)
raises n known (AnnotationIn m) (Word Keyword.Annotation) stack = raises_note m known stack
raises n known (AnnotationIn m) item stack = raises_if (is_some (iri_of known item)) known (Value ∷ stack)
raises n known Value Item.Quoted stack = refl
raises n known Value item stack = raises_if (is_subject known item) known (Closing ∷ stack)
raises n known QuotedEnd Item.Closing stack = refl
raises n known QuotedEnd Item.Lang stack = refl
raises n known QuotedEnd Item.Carets stack = refl
raises n known (AxiomIn form) (Word Keyword.Annotation) stack = refl
raises n known (AxiomIn form) (Word (Keyword.Expr e)) stack =
    raises_first (wants_part_next (bare (Form.Axiom form) (suc n))) n known e (bare (Form.Axiom form) (suc n)) stack
raises n known (AxiomIn form) item stack = raises_inside known (bare (Form.Axiom form) (suc n)) item stack
raises n known (Inside frame) item stack = raises_inside known frame item stack
raises n known s item stack = refl

-- ---- runs

-- an item leads from the raised state to a raised one
step_raises : (n : ℕ) (known : Known) (stack : List Symbol) (item : Item) (next : State) → step (suc n) (Some (known, stack)) item ≡ Some next
    → step (suc (suc n)) (Some (known, raised stack)) item ≡ Some (next.0, raised next.1)
step_raises n known [] item next taken = absurd cc
step_raises n known (s ∷ stack) item next taken =
    subst (λ (o : Option State). IsRaised (is_over s item) o (advance (suc (suc n)) known (raise s) item (raised stack))) taken (raises n known s item stack)

-- so does a run
raises_along : (n : ℕ) (front : List Item) (first end : State) → after (suc n) (Some first) front ≡ Some end
    → after (suc (suc n)) (Some (first.0, raised first.1)) front ≡ Some (end.0, raised end.1)
raises_along n [] first end run = let same : first ≡ end = cc in ap (λ (state : State). Some (state.0, raised state.1)) same
raises_along n (item ∷ front) first end run =
    let (next, taken) = began (suc n) (step (suc n) (Some first) item) front end run in
    ap (λ (o : Option State). after (suc (suc n)) o front) (step_raises n first.0 first.1 item next taken)
    ∙ raises_along n front next end (subst (λ (o : Option State). after (suc n) o front ≡ Some end) taken run)

-- with one more inside each other, the same items lead to the raised state
pub start_raises : (n : ℕ) (front : List Item) (end : State) → after (suc n) start front ≡ Some end → after (suc (suc n)) start front ≡ Some (end.0, raised end.1)
start_raises n front end run = raises_along n front (begun, Document ∷ []) end run

-- only the limit keeps the item from standing here
abbrev pub over_at : List Symbol → Item → Bool
over_at [] item = false
over_at (s ∷ stack) item = is_over s item

-- without a state there is one above exactly if only the limit was in the way
stuck_raises : (over : Bool) (o above : Option State) → o ≡ None → IsRaised over o above → is_some above ≡ over
stuck_raises true None above stuck is = is
stuck_raises false None above stuck is = ap is_some is
stuck_raises over (Some state) above stuck is = absurd cc

-- where the machine is stuck, one more inside each other lets it go on exactly if only the limit was in the way
pub stuck_at : (n : ℕ) (known : Known) (stack : List Symbol) (item : Item) → step (suc n) (Some (known, stack)) item ≡ None
    → is_some (step (suc (suc n)) (Some (known, raised stack)) item) ≡ over_at stack item
stuck_at n known [] item stuck = refl
stuck_at n known (s ∷ stack) item stuck =
    stuck_raises (is_over s item) (advance (suc n) known s item stack) (advance (suc (suc n)) known (raise s) item (raised stack)) stuck (raises n known s item stack)
