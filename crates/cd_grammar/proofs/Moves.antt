-- What an item that is taken does to what is known and wanted.
use Rattle.std.proofs.Common.{◌≡◌, ℕ, zero, suc, ◌+◌, ◌≤◌, Bool, true, false, not, cond, ◌&&◌, ◌||◌, List, [], ◌∷◌, ◌++◌, refl}
use Rattle.std.specs.Prelude.{Option, Some, None, is_some, nat_le, sum_by}
use Rattle.std.specs.List.{list_all}
use Rattle.std.specs.Str.{bytes_eq}
use Rattle.std.proofs.lemmas.Bool.{and_parts, leb-true}
use Rattle.cd_meaning.specs.declared.expression.Axiom.{Axiom}
use Rattle.cd_meaning.specs.declared.expression.Expr.{Expr}
use Rattle.cd_meaning.specs.declared.expression.Expr.TheVariants.{Name}
use Rattle.cd_meaning.specs.Nodes.{nodes_of}
use Rattle.cd_names.specs.Names.{number}
use Rattle.cd_names.specs.Prefixes.{meaning}
use Rattle.cd_syntax.specs.declared.item.Item.{Item}
use Rattle.cd_syntax.specs.declared.item.Item.TheVariants.{Word, Short, FullIri}
use Rattle.cd_syntax.specs.declared.known.Known.{Known}
use Rattle.cd_syntax.specs.declared.operands.Made.{Made}
use Rattle.cd_grammar.specs.declared.symbol.Frame.{Frame}
use Rattle.cd_grammar.specs.declared.symbol.Symbol.{Symbol}
use Rattle.cd_grammar.specs.declared.symbol.Symbol.TheVariants.{Opening, Closing, Equals, End, Iri, Subject, Class, PrefixIri, Document, Binding, OntologyIri, VersionIri, Annotations, Axioms, DeclarationIn, AssertionIn, AnnotationAxiomIn, AnnotationIn, Value, QuotedEnd, AxiomIn, Inside}
use Rattle.cd_syntax.specs.declared.words.AxiomForm.{AxiomForm}
use Rattle.cd_syntax.specs.declared.words.ExprForm.{ExprForm}
use Rattle.cd_syntax.specs.declared.words.Form.{Form}
use Rattle.cd_syntax.specs.declared.words.Keyword.{Keyword}
use Rattle.cd_syntax.specs.Grammar.{with_prefix, with_class, with_role, with_axiom}
use Rattle.cd_syntax.specs.Named.{iri_of, is_subject, is_role}
use Rattle.cd_grammar.specs.Machine.{State, taken_if, by_iri, class_taken, bound, noted, bare, with_head, with_part, wants_head_next, wants_part_next, given, closed, deeper, head_taken, part_taken, operand_taken, inside_taken, axioms_taken, notes_taken, ontology_iri_taken, advance}
use Rattle.cd_syntax.specs.Operands.{has_class_head, made_of}

-- ---- symbols

-- no operand came yet
abbrev pub is_operandless : Symbol → Bool
is_operandless (Inside frame) = false
is_operandless symbol = true

-- the nodes that came, of what the symbol is to end
abbrev pub waiting : Symbol → ℕ
waiting (AxiomIn form) = 1
waiting (Inside frame) = 1 + sum_by nodes_of frame.parts
waiting symbol = 0

-- the symbol leads to the end of the document
abbrev pub carries_end : Symbol → Bool
carries_end End = true
carries_end Document = true
carries_end Binding = true
carries_end OntologyIri = true
carries_end VersionIri = true
carries_end Annotations = true
carries_end Axioms = true
carries_end symbol = false

-- at most the last of the symbols leads to the end, and that only where it may
abbrev pub ends_by : Bool → List Symbol → Bool
ends_by may [] = true
ends_by may (symbol ∷ []) = may || not (carries_end symbol)
ends_by may (symbol ∷ next ∷ more) = not (carries_end symbol) && ends_by may (next ∷ more)

-- these may come in the place of the symbol, with no operand and at most one node more
abbrev pub may_replace : Symbol → List Symbol → Bool
may_replace symbol parts = list_all is_operandless parts && nat_le (sum_by waiting parts) (1 + waiting symbol) && ends_by (carries_end symbol) parts

replaced : (symbol : Symbol) (parts : List Symbol) → may_replace symbol parts ≡ true
    → (list_all is_operandless parts && nat_le (sum_by waiting parts) (1 + waiting symbol) ≡ true) × (ends_by (carries_end symbol) parts ≡ true)
replaced symbol parts may = and_parts (list_all is_operandless parts && nat_le (sum_by waiting parts) (1 + waiting symbol)) (ends_by (carries_end symbol) parts) may

pub replaced_operandless : (symbol : Symbol) (parts : List Symbol) → may_replace symbol parts ≡ true → list_all is_operandless parts ≡ true
replaced_operandless symbol parts may = (and_parts (list_all is_operandless parts) (nat_le (sum_by waiting parts) (1 + waiting symbol)) (replaced symbol parts may).0).0

pub replaced_waiting : (symbol : Symbol) (parts : List Symbol) → may_replace symbol parts ≡ true → sum_by waiting parts ≤ 1 + waiting symbol
replaced_waiting symbol parts may =
    leb-true (sum_by waiting parts) (1 + waiting symbol)
    (and_parts (list_all is_operandless parts) (nat_le (sum_by waiting parts) (1 + waiting symbol)) (replaced symbol parts may).0).1

pub replaced_ends : (symbol : Symbol) (parts : List Symbol) → may_replace symbol parts ≡ true → ends_by (carries_end symbol) parts ≡ true
replaced_ends symbol parts may = (replaced symbol parts may).1

-- ---- moves

-- the symbol stands behind these operands
pub data IsBehind (most : ℕ) : Symbol → Frame → Type 0 where
  none : {form : AxiomForm} → IsBehind most (AxiomIn form) (bare (Form.Axiom form) most)
  some : {frame : Frame} → IsBehind most (Inside frame) frame

-- what is known and wanted once the item is taken
pub data Moves (most : ℕ) (known : Known) (item : Item) : List Symbol → Known → List Symbol → Type 0 where
  passes : {symbol : Symbol} {stack : List Symbol} (parts : List Symbol) → may_replace symbol parts ≡ true
      → Moves most known item (symbol ∷ stack) known (parts ++ stack)
  binds : {stack : List Symbol} (p i : List ℕ) → item ≡ FullIri i → Moves most known item (PrefixIri p ∷ stack) (with_prefix known p i) stack
  names : {stack : List Symbol} (i : List ℕ) → iri_of known item ≡ Some i → Moves most known item (Class ∷ stack) (with_class known i) stack
  -- a class or a role as the next head
  heads_class : {symbol : Symbol} {stack : List Symbol} (frame : Frame) (i : List ℕ) → IsBehind most symbol frame → iri_of known item ≡ Some i
      → has_class_head frame.form ≡ true
      → Moves most known item (symbol ∷ stack) (with_class known i) (Inside (with_head frame (number known.classes i)) ∷ stack)
  heads_role : {symbol : Symbol} {stack : List Symbol} (frame : Frame) (i : List ℕ) → IsBehind most symbol frame → iri_of known item ≡ Some i
      → has_class_head frame.form ≡ false
      → Moves most known item (symbol ∷ stack) (with_role known i) (Inside (with_head frame (number known.roles i)) ∷ stack)
  -- a named class as the next part
  parts_class : {symbol : Symbol} {stack : List Symbol} (frame : Frame) (i : List ℕ) → IsBehind most symbol frame → iri_of known item ≡ Some i
      → Moves most known item (symbol ∷ stack) (with_class known i) (Inside (with_part frame (Name (number known.classes i))) ∷ stack)
  -- the word of an expression as the next part
  deepens : {symbol : Symbol} {stack : List Symbol} (frame : Frame) (form : ExprForm) (n : ℕ) → IsBehind most symbol frame
      → Moves most known item (symbol ∷ stack) known (Opening ∷ Inside (bare (Form.Expr form) n) ∷ Inside frame ∷ stack)
  -- the parenthesis behind the operands of an axiom or of an expression
  ends_axiom : {symbol : Symbol} {stack : List Symbol} (frame : Frame) (a : Axiom) → IsBehind most symbol frame
      → made_of frame.form frame.heads frame.parts ≡ Some (Made.Axiom a) → Moves most known item (symbol ∷ stack) (with_axiom known a) stack
  ends_expression : {symbol : Symbol} {stack : List Symbol} (frame below : Frame) (e : Expr) → IsBehind most symbol frame
      → made_of frame.form frame.heads frame.parts ≡ Some (Made.Expr e)
      → Moves most known item (symbol ∷ Inside below ∷ stack) known (Inside (with_part below e) ∷ stack)

-- ---- what the machine does is a move

-- the item does so, if it is taken
abbrev pub Goes : ℕ → Known → Item → List Symbol → Option State → Type 0
Goes most known item stack None = Unit {0}
Goes most known item stack (Some state) = Moves most known item stack state.0 state.1

module _ (most : ℕ) (known : Known) where
  if_goes : (item : Item) (stack : List Symbol) (state : State) (b : Bool) → Moves most known item stack state.0 state.1
      → Goes most known item stack (taken_if b state)
  if_goes item stack state true moves = moves
  if_goes item stack state false moves = tt

  class_goes : (item : Item) (stack : List Symbol) (o : Option (List ℕ)) → iri_of known item ≡ o
      → Goes most known item (Class ∷ stack) (class_taken known stack o)
  class_goes item stack None is = tt
  class_goes item stack (Some i) is = Moves.names i is

  bound_goes : (p i : List ℕ) (stack : List Symbol) (o : Option (List ℕ)) → Goes most known (FullIri i) (PrefixIri p ∷ stack) (bound known p i stack o)
  bound_goes p i stack None = Moves.binds p i refl
  bound_goes p i stack (Some j) = if_goes (FullIri i) (PrefixIri p ∷ stack) (with_prefix known p i, stack) (bytes_eq j i) (Moves.binds p i refl)

  -- an annotation in front of a symbol
  noted_goes : (n : ℕ) (item : Item) (symbol next : Symbol) (stack : List Symbol) → ((k : ℕ) → may_replace symbol (Opening ∷ AnnotationIn k ∷ next ∷ []) ≡ true)
      → Goes most known item (symbol ∷ stack) (noted n known (next ∷ stack))
  noted_goes zero item symbol next stack may = tt
  noted_goes (suc n) item symbol next stack may = Moves.passes (Opening ∷ AnnotationIn n ∷ next ∷ []) (may n)

  -- ---- operands

  module _ (item : Item) (symbol : Symbol) (frame : Frame) (stack : List Symbol) (behind : IsBehind most symbol frame) where
    given_goes : (e : Expr) (rest : List Symbol) → made_of frame.form frame.heads frame.parts ≡ Some (Made.Expr e)
        → Goes most known item (symbol ∷ rest) (given known e rest)
    given_goes e (Inside below ∷ rest) makes = Moves.ends_expression frame below e behind makes
    given_goes e rest makes = tt

    closed_goes : (o : Option Made) → made_of frame.form frame.heads frame.parts ≡ o → Goes most known item (symbol ∷ stack) (closed known o stack)
    closed_goes None makes = tt
    closed_goes (Some (Made.Axiom a)) makes = Moves.ends_axiom frame a behind makes
    closed_goes (Some (Made.Expr e)) makes = given_goes e stack makes

    deeper_goes : (b : Bool) (n : ℕ) (form : ExprForm) → Goes most known item (symbol ∷ stack) (deeper b n known form (Inside frame ∷ stack))
    deeper_goes false n form = tt
    deeper_goes true zero form = tt
    deeper_goes true (suc n) form = Moves.deepens frame form n behind

    head_goes : (b : Bool) (i : List ℕ) → iri_of known item ≡ Some i → has_class_head frame.form ≡ b
        → Goes most known item (symbol ∷ stack) (head_taken b known frame stack i)
    head_goes true i is kind = Moves.heads_class frame i behind is kind
    head_goes false i is kind =
        if_goes item (symbol ∷ stack) (with_role known i, Inside (with_head frame (number known.roles i)) ∷ stack) (is_role i) (Moves.heads_role frame i behind is kind)

    operand_goes : (o : Option (List ℕ)) → iri_of known item ≡ o → Goes most known item (symbol ∷ stack) (operand_taken known frame stack o)
    operand_goes None is = tt
    operand_goes (Some i) is =
        let Part : Bool → Type 0 = λ t. Goes most known item (symbol ∷ stack) (cond t (part_taken known frame stack i) None) in
        let Operand : Bool → Type 0 = λ t. Goes most known item (symbol ∷ stack)
        (cond t (head_taken (has_class_head frame.form) known frame stack i) (cond (wants_part_next frame) (part_taken known frame stack i) None)) in
        elim (wants_head_next frame) as Operand [
          | true ↦ head_goes (has_class_head frame.form) i is refl
          | false ↦ elim (wants_part_next frame) as Part [ true ↦ Moves.parts_class frame i behind is | false ↦ tt ]
        ]

  inside_goes : (item : Item) (symbol : Symbol) (frame : Frame) (stack : List Symbol) → IsBehind most symbol frame
      → Goes most known item (symbol ∷ stack) (inside_taken known frame item stack)
  inside_goes Item.Closing symbol frame stack behind = closed_goes Item.Closing symbol frame stack behind (made_of frame.form frame.heads frame.parts) refl
  inside_goes (Word (Keyword.Expr form)) symbol frame stack behind =
      deeper_goes (Word (Keyword.Expr form)) symbol frame stack behind (wants_part_next frame) frame.nesting form
  inside_goes item symbol frame stack behind = operand_goes item symbol frame stack behind (iri_of known item) refl

  -- ---- the rest

  -- what may come in the place of axioms may come in that of the symbol
  abbrev MayAsAxioms : Symbol → Type 0
  MayAsAxioms symbol = (parts : List Symbol) → may_replace Axioms parts ≡ true → may_replace symbol parts ≡ true

  passes_as : (item : Item) (symbol : Symbol) (stack parts : List Symbol) → MayAsAxioms symbol → may_replace Axioms parts ≡ true
      → Moves most known item (symbol ∷ stack) known (parts ++ stack)
  passes_as item symbol stack parts may fits = Moves.passes parts (may parts fits)

  axioms_goes : (item : Item) (symbol : Symbol) (stack : List Symbol) → MayAsAxioms symbol
      → Goes most known item (symbol ∷ stack) (axioms_taken known item stack)
  axioms_goes (Word Keyword.Declaration) symbol stack may = passes_as (Word Keyword.Declaration) symbol stack (Opening ∷ DeclarationIn ∷ Axioms ∷ []) may refl
  axioms_goes (Word (Keyword.Axiom form)) symbol stack may = passes_as (Word (Keyword.Axiom form)) symbol stack (Opening ∷ AxiomIn form ∷ Axioms ∷ []) may refl
  axioms_goes (Word Keyword.AnnotationAssertion) symbol stack may = passes_as (Word Keyword.AnnotationAssertion) symbol stack (Opening ∷ AssertionIn ∷ Axioms ∷ []) may refl
  axioms_goes (Word Keyword.AnnotationAxiom) symbol stack may = passes_as (Word Keyword.AnnotationAxiom) symbol stack (Opening ∷ AnnotationAxiomIn ∷ Axioms ∷ []) may refl
  axioms_goes Item.Closing symbol stack may = passes_as Item.Closing symbol stack (End ∷ []) may refl
  axioms_goes item symbol stack may = tt

  notes_goes : (item : Item) (symbol : Symbol) (stack : List Symbol) → MayAsAxioms symbol
      → Goes most known item (symbol ∷ stack) (notes_taken most known item stack)
  notes_goes (Word Keyword.Annotation) symbol stack may = noted_goes most (Word Keyword.Annotation) symbol Annotations stack (λ k. may (Opening ∷ AnnotationIn k ∷ Annotations ∷ []) refl)
  notes_goes item symbol stack may = axioms_goes item symbol stack may

  ontology_goes : (item : Item) (symbol next : Symbol) (stack : List Symbol) → MayAsAxioms symbol
      → may_replace Axioms (next ∷ []) ≡ true → Goes most known item (symbol ∷ stack) (ontology_iri_taken most known item next stack)
  ontology_goes (FullIri i) symbol next stack may follows = passes_as (FullIri i) symbol stack (next ∷ []) may follows
  ontology_goes (Short p l) symbol next stack may follows =
      if_goes (Short p l) (symbol ∷ stack) (known, next ∷ stack) (is_some (iri_of known (Short p l))) (passes_as (Short p l) symbol stack (next ∷ []) may follows)
  ontology_goes item symbol next stack may follows = notes_goes item symbol stack may

  iri_goes : (item : Item) (symbol : Symbol) (parts stack : List Symbol) → may_replace symbol parts ≡ true
      → Goes most known item (symbol ∷ stack) (by_iri (iri_of known item) (known, parts ++ stack))
  iri_goes item symbol parts stack may = if_goes item (symbol ∷ stack) (known, parts ++ stack) (is_some (iri_of known item)) (Moves.passes parts may)

  subject_goes : (item : Item) (symbol : Symbol) (parts stack : List Symbol) → may_replace symbol parts ≡ true
      → Goes most known item (symbol ∷ stack) (taken_if (is_subject known item) (known, parts ++ stack))
  subject_goes item symbol parts stack may = if_goes item (symbol ∷ stack) (known, parts ++ stack) (is_subject known item) (Moves.passes parts may)

  -- each step of the machine is a move
  pub advance_goes : (symbol : Symbol) (item : Item) (stack : List Symbol) → Goes most known item (symbol ∷ stack) (advance most known symbol item stack)
  advance_goes Opening Item.Opening stack = Moves.passes [] refl
  advance_goes Closing Item.Closing stack = Moves.passes [] refl
  advance_goes Equals Item.Equals stack = Moves.passes [] refl
  advance_goes End Item.End stack = Moves.passes [] refl
  advance_goes Iri item stack = iri_goes item Iri [] stack refl
  advance_goes Subject item stack = subject_goes item Subject [] stack refl
  advance_goes Class item stack = class_goes item stack (iri_of known item) refl
  advance_goes (PrefixIri p) (FullIri i) stack = bound_goes p i stack (meaning known.prefixes p)
  advance_goes Document (Word Keyword.Prefix) stack = Moves.passes (Opening ∷ Binding ∷ []) refl
  advance_goes Document (Word Keyword.Ontology) stack = Moves.passes (Opening ∷ OntologyIri ∷ []) refl
  advance_goes Binding (Short p []) stack = Moves.passes (Equals ∷ PrefixIri p ∷ Closing ∷ Document ∷ []) refl
  advance_goes OntologyIri item stack = ontology_goes item OntologyIri VersionIri stack (λ parts may. may) refl
  advance_goes VersionIri item stack = ontology_goes item VersionIri Annotations stack (λ parts may. may) refl
  advance_goes Annotations item stack = notes_goes item Annotations stack (λ parts may. may)
  advance_goes Axioms item stack = axioms_goes item Axioms stack (λ parts may. may)
  advance_goes DeclarationIn (Word Keyword.Annotation) stack = noted_goes most (Word Keyword.Annotation) DeclarationIn DeclarationIn stack (λ k. refl)
  advance_goes DeclarationIn (Word Keyword.Class) stack = Moves.passes (Opening ∷ Class ∷ Closing ∷ Closing ∷ []) refl
  advance_goes DeclarationIn (Word Keyword.Entity) stack = Moves.passes (Opening ∷ Iri ∷ Closing ∷ Closing ∷ []) refl
  advance_goes AssertionIn (Word Keyword.Annotation) stack = noted_goes most (Word Keyword.Annotation) AssertionIn AssertionIn stack (λ k. refl)
  advance_goes AssertionIn item stack = iri_goes item AssertionIn (Subject ∷ Value ∷ []) stack refl
  advance_goes AnnotationAxiomIn (Word Keyword.Annotation) stack = noted_goes most (Word Keyword.Annotation) AnnotationAxiomIn AnnotationAxiomIn stack (λ k. refl)
  advance_goes AnnotationAxiomIn item stack = iri_goes item AnnotationAxiomIn (Iri ∷ Closing ∷ []) stack refl
  advance_goes (AnnotationIn n) (Word Keyword.Annotation) stack = noted_goes n (Word Keyword.Annotation) (AnnotationIn n) (AnnotationIn n) stack (λ k. refl)
  advance_goes (AnnotationIn n) item stack = iri_goes item (AnnotationIn n) (Value ∷ []) stack refl
  advance_goes Value Item.Quoted stack = Moves.passes (QuotedEnd ∷ []) refl
  advance_goes Value item stack = subject_goes item Value (Closing ∷ []) stack refl
  advance_goes QuotedEnd Item.Closing stack = Moves.passes [] refl
  advance_goes QuotedEnd Item.Lang stack = Moves.passes (Closing ∷ []) refl
  advance_goes QuotedEnd Item.Carets stack = Moves.passes (Iri ∷ Closing ∷ []) refl
  advance_goes (AxiomIn form) (Word Keyword.Annotation) stack = noted_goes most (Word Keyword.Annotation) (AxiomIn form) (AxiomIn form) stack (λ k. refl)
  advance_goes (AxiomIn form) item stack = inside_goes item (AxiomIn form) (bare (Form.Axiom form) most) stack IsBehind.none
  advance_goes (Inside frame) item stack = inside_goes item (Inside frame) frame stack IsBehind.some
  advance_goes symbol item stack = tt
