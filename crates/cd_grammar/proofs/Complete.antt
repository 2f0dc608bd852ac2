-- A derivation of the grammar goes through what the machine makes of its first item.
use Rattle.std.proofs.Common.{◌≡◌, ◌⊎◌, ℕ, Bool, List, [], ◌∷◌, ◌++◌, refl, ap, subst, ◌∙◌, inl, inr}
use Rattle.std.specs.Prelude.{Option, Some, None}
use Rattle.std.specs.Option.{option_map}
use Rattle.std.proofs.lemmas.Slice.Eq.{bytes_eq-Decides}
use Rattle.cd_meaning.specs.declared.expression.Axiom.{Axiom}
use Rattle.cd_meaning.specs.declared.expression.Expr.{Expr}
use Rattle.cd_names.specs.Prefixes.{meaning}
use Rattle.cd_syntax.specs.declared.item.Item.{Item}
use Rattle.cd_syntax.specs.declared.item.Item.TheVariants.{Word, Short, FullIri}
use Rattle.cd_syntax.specs.declared.known.Known.{Known}
use Rattle.cd_syntax.specs.declared.operands.Made.{Made}
use Rattle.cd_grammar.specs.declared.symbol.Symbol.{Symbol}
use Rattle.cd_grammar.specs.declared.symbol.Symbol.TheVariants.{Opening, Closing, Equals, End, Iri, Class, Document, Binding, VersionIri, QuotedEnd, Inside}
use Rattle.cd_syntax.specs.declared.words.AxiomForm.{AxiomForm}
use Rattle.cd_syntax.specs.declared.words.Form.{Form}
use Rattle.cd_syntax.specs.declared.words.Keyword.{Keyword}
use Rattle.cd_syntax.specs.Grammar.{with_prefix}
use Rattle.cd_syntax.proofs.ItemGrammar.{Wanted, Exact, ClosingOf, Text, IsAnyIri, operands, Leads, IsMade}
use Rattle.cd_syntax.specs.Named.{iri_of, is_subject}
use Rattle.cd_grammar.specs.Machine.{State, taken_if, by_iri, class_taken, bound, bare, inside_taken, axioms_taken, notes_taken, ontology_iri_taken, advance}
use Rattle.cd_grammar.proofs.CompleteOperands.{inside_complete}
use Rattle.cd_syntax.proofs.Derivation.{iri_first, subject_first, class_first, prefix_first, lined}
use Rattle.cd_syntax.proofs.Items.{iri_of-means, is_subject-of}
use Rattle.cd_grammar.proofs.Derivation.{by_iri-means, Goes, goes_on, by_exact, by_word, by_note}
use Rattle.cd_grammar.proofs.Fills.{Completes, Wants, Fills}

module _ (most : ℕ) (items : List Item) (known' : Known) (wanted' : List Wanted) where
  -- a derivation from here on, whose first item is this
  abbrev From : Known → List Wanted → Item → Type 0
  From known wanted item = Leads most known wanted (item ∷ items) known' wanted'

  -- the state goes on to the end of the derivation
  abbrev Then : Option State → Type 0
  Then state = Goes most items known' wanted' state

  -- ---- axioms, and what stands before them

  -- axioms
  axioms_complete : (known : Known) (item : Item) (stack : List Symbol) (rest : List Wanted) → Fills [] stack rest → From known (Wanted.Axioms ∷ rest) item
      → Then (axioms_taken known item stack)
  axioms_complete known item stack rest fills (Leads.one st r) = absurd st
  axioms_complete known item stack rest fills (Leads.line parts (inl is) r) =
      by_word (λ (t : Item). axioms_taken known t stack) rest (Symbol.DeclarationIn ∷ Symbol.Axioms ∷ stack) is r refl
      (_, _, _, (refl, refl), refl, (_, _, _, (refl, refl), refl, fills))
  axioms_complete known item stack rest fills (Leads.line parts (inr (inl (form, a, made, is))) r) =
      by_word (λ (t : Item). axioms_taken known t stack) rest (Symbol.AxiomIn form ∷ Symbol.Axioms ∷ stack) is r refl
      (_, _, _, ((a, made, refl), refl), refl, (_, _, _, (refl, refl), refl, fills))
  axioms_complete known item stack rest fills (Leads.line parts (inr (inr (inl is))) r) =
      by_word (λ (t : Item). axioms_taken known t stack) rest (Symbol.AssertionIn ∷ Symbol.Axioms ∷ stack) is r refl
      (_, _, _, (refl, refl), refl, (_, _, _, (refl, refl), refl, fills))
  axioms_complete known item stack rest fills (Leads.line parts (inr (inr (inr (inl is)))) r) =
      by_word (λ (t : Item). axioms_taken known t stack) rest (Symbol.AnnotationAxiomIn ∷ Symbol.Axioms ∷ stack) is r refl
      (_, _, _, (refl, refl), refl, (_, _, _, (refl, refl), refl, fills))
  axioms_complete known item stack rest fills (Leads.line parts (inr (inr (inr (inr is)))) r) =
      by_exact (λ (t : Item). axioms_taken known t stack) (End ∷ stack) (lined rest is r) refl (_, _, _, (refl, refl), refl, fills)

  -- an axiom is taken where annotations may come
  notes_other : (known : Known) (item : Item) (stack : List Symbol) → Then (axioms_taken known item stack) → Then (notes_taken most known item stack)
  notes_other known (Word Keyword.Annotation) stack goes = absurd goes
  notes_other known item stack goes = goes

  -- the ontology's annotations
  notes_complete : (known : Known) (item : Item) (stack : List Symbol) (rest : List Wanted) → Fills [] stack rest → From known (Wanted.Annotations ∷ rest) item
      → Then (notes_taken most known item stack)
  notes_complete known item stack rest fills (Leads.one st r) = absurd st
  notes_complete known item stack rest fills (Leads.line parts (inl l) r) =
      by_note (λ (t : Item). notes_taken most known t stack) most Symbol.Annotations Wanted.Annotations parts rest stack l r refl (refl, refl) fills
  notes_complete known item stack rest fills (Leads.line parts (inr is) r) =
      notes_other known item stack (axioms_complete known item stack rest fills (lined rest is r))

  -- an IRI of the ontology is taken
  ontology_iri-means : (known : Known) (item : Item) (next : Symbol) (stack : List Symbol) → IsAnyIri known item
      → ontology_iri_taken most known item next stack ≡ Some (known, next ∷ stack)
  ontology_iri-means known (FullIri i) next stack m = refl
  ontology_iri-means known (Short p l) next stack m = by_iri-means known (Short p l) (known, next ∷ stack) m
  ontology_iri-means known item next stack (i, m) = absurd m

  -- an annotation or an axiom is taken where an IRI may come
  ontology_iri_other : (known : Known) (item : Item) (next : Symbol) (stack : List Symbol) → Then (notes_taken most known item stack)
      → Then (ontology_iri_taken most known item next stack)
  ontology_iri_other known (FullIri i) next stack goes = absurd goes
  ontology_iri_other known (Short p l) next stack goes = absurd goes
  ontology_iri_other known item next stack goes = goes

  -- the ontology behind its parenthesis
  ontology_iri_complete : (known : Known) (item : Item) (stack : List Symbol) (rest : List Wanted) → Fills [] stack rest
      → From known (Wanted.OntologyIri ∷ rest) item
      → Then (ontology_iri_taken most known item VersionIri stack)
  ontology_iri_complete known item stack rest fills (Leads.one st r) = absurd st
  ontology_iri_complete known item stack rest fills (Leads.line parts (inl is) r) =
      ontology_iri_other known item VersionIri stack (notes_complete known item stack rest fills (lined rest is r))
  ontology_iri_complete known item stack rest fills (Leads.line parts (inr (inl is)) r) =
      let first = iri_first (lined rest is r) in
      goes_on (ontology_iri-means known item VersionIri stack first.0) (_, _, _, (inr refl, refl), refl, fills) first.1
  ontology_iri_complete known item stack rest fills (Leads.line parts (inr (inr is)) r) =
      let first = iri_first (lined rest is r) in
      goes_on (ontology_iri-means known item VersionIri stack first.0) (_, _, _, (inl refl, refl), refl, fills) first.1

  -- a document
  document_complete : (known : Known) (item : Item) (stack : List Symbol) (rest : List Wanted) → Fills [] stack rest → From known (Text ∷ rest) item
      → Then (advance most known Document item stack)
  document_complete known item stack rest fills (Leads.one st r) = absurd st
  document_complete known item stack rest fills (Leads.line parts (inl (p, is)) r) =
      by_word (λ (t : Item). advance most known Document t stack) rest (Binding ∷ stack) is r refl (_, _, _, ((p, refl), refl), refl, fills)
  document_complete known item stack rest fills (Leads.line parts (inr is) r) =
      by_word (λ (t : Item). advance most known Document t stack) rest (Symbol.OntologyIri ∷ stack) is r refl (_, _, _, (refl, refl), refl, fills)

  -- ---- declarations and annotations

  -- a declaration behind its parenthesis
  declaration_complete : (known : Known) (item : Item) (stack : List Symbol) (rest : List Wanted) → Fills [] stack rest
      → From known (Wanted.DeclarationIn ∷ rest) item
      → Then (advance most known Symbol.DeclarationIn item stack)
  declaration_complete known item stack rest fills (Leads.one st r) = absurd st
  declaration_complete known item stack rest fills (Leads.line parts (inl l) r) =
      by_note (λ (t : Item). advance most known Symbol.DeclarationIn t stack) most
      Symbol.DeclarationIn Wanted.DeclarationIn parts rest stack l r refl (refl, refl) fills
  declaration_complete known item stack rest fills (Leads.line parts (inr (inl (c, is))) r) =
      by_word (λ (t : Item). advance most known Symbol.DeclarationIn t stack) rest (Class ∷ Closing ∷ Closing ∷ stack) is r refl
      (_, _, _, ((c, refl), refl), refl, (_, _, _, (refl, refl), refl, (_, _, _, (refl, refl), refl, fills)))
  declaration_complete known item stack rest fills (Leads.line parts (inr (inr is)) r) =
      by_word (λ (t : Item). advance most known Symbol.DeclarationIn t stack) rest (Iri ∷ Closing ∷ Closing ∷ stack) is r refl
      (_, _, _, (refl, refl), refl, (_, _, _, (refl, refl), refl, (_, _, _, (refl, refl), refl, fills)))

  -- an IRI is taken where annotations may come: in an assertion
  assertion_other : (known : Known) (item : Item) (stack : List Symbol) → Then (by_iri (iri_of known item) (known, Symbol.Subject ∷ Symbol.Value ∷ stack))
      → Then (advance most known Symbol.AssertionIn item stack)
  assertion_other known (Word Keyword.Annotation) stack goes = absurd goes
  assertion_other known item stack goes = goes

  -- an assertion behind its parenthesis
  assertion_complete : (known : Known) (item : Item) (stack : List Symbol) (rest : List Wanted) → Fills [] stack rest
      → From known (Wanted.AssertionIn ∷ rest) item
      → Then (advance most known Symbol.AssertionIn item stack)
  assertion_complete known item stack rest fills (Leads.one st r) = absurd st
  assertion_complete known item stack rest fills (Leads.line parts (inl l) r) =
      by_note (λ (t : Item). advance most known Symbol.AssertionIn t stack) most
      Symbol.AssertionIn Wanted.AssertionIn parts rest stack l r refl (refl, refl) fills
  assertion_complete known item stack rest fills (Leads.line parts (inr is) r) =
      let first = iri_first (lined rest is r) in
      assertion_other known item stack
      (goes_on (by_iri-means known item _ first.0) (_, _, _, (refl, refl), refl, (_, _, _, (refl, refl), refl, fills)) first.1)

  -- in another axiom on annotations
  annotation_axiom_other : (known : Known) (item : Item) (stack : List Symbol) → Then (by_iri (iri_of known item) (known, Iri ∷ Closing ∷ stack))
      → Then (advance most known Symbol.AnnotationAxiomIn item stack)
  annotation_axiom_other known (Word Keyword.Annotation) stack goes = absurd goes
  annotation_axiom_other known item stack goes = goes

  -- an axiom on annotations behind its parenthesis
  annotation_axiom_complete : (known : Known) (item : Item) (stack : List Symbol) (rest : List Wanted) → Fills [] stack rest
      → From known (Wanted.AnnotationAxiomIn ∷ rest) item
      → Then (advance most known Symbol.AnnotationAxiomIn item stack)
  annotation_axiom_complete known item stack rest fills (Leads.one st r) = absurd st
  annotation_axiom_complete known item stack rest fills (Leads.line parts (inl l) r) =
      by_note (λ (t : Item). advance most known Symbol.AnnotationAxiomIn t stack) most
      Symbol.AnnotationAxiomIn Wanted.AnnotationAxiomIn parts rest stack l r refl (refl, refl) fills
  annotation_axiom_complete known item stack rest fills (Leads.line parts (inr is) r) =
      let first = iri_first (lined rest is r) in
      annotation_axiom_other known item stack
      (goes_on (by_iri-means known item _ first.0) (_, _, _, (refl, refl), refl, (_, _, _, (refl, refl), refl, fills)) first.1)

  -- in an annotation
  note_other : (known : Known) (n : ℕ) (item : Item) (stack : List Symbol) → Then (by_iri (iri_of known item) (known, Symbol.Value ∷ stack))
      → Then (advance most known (Symbol.AnnotationIn n) item stack)
  note_other known n (Word Keyword.Annotation) stack goes = absurd goes
  note_other known n item stack goes = goes

  -- an annotation behind its parenthesis
  note_complete : (known : Known) (n : ℕ) (item : Item) (stack : List Symbol) (rest : List Wanted) → Fills [] stack rest
      → From known (Wanted.AnnotationIn n ∷ rest) item
      → Then (advance most known (Symbol.AnnotationIn n) item stack)
  note_complete known n item stack rest fills (Leads.one st r) = absurd st
  note_complete known n item stack rest fills (Leads.line parts (inl l) r) =
      by_note (λ (t : Item). advance most known (Symbol.AnnotationIn n) t stack) n (Symbol.AnnotationIn n) (Wanted.AnnotationIn n) parts rest stack l r refl (refl, refl) fills
  note_complete known n item stack rest fills (Leads.line parts (inr is) r) =
      let first = iri_first (lined rest is r) in
      note_other known n item stack (goes_on (by_iri-means known item _ first.0) (_, _, _, (refl, refl), refl, fills) first.1)

  -- a subject is taken where a string may come
  value_other : (known : Known) (item : Item) (stack : List Symbol) → Then (taken_if (is_subject known item) (known, Closing ∷ stack))
      → Then (advance most known Symbol.Value item stack)
  value_other known Item.Quoted stack goes = absurd goes
  value_other known item stack goes = goes

  -- the value of an annotation, and the parenthesis behind it
  value_complete : (known : Known) (item : Item) (stack : List Symbol) (rest : List Wanted) → Fills [] stack rest
      → From known (Wanted.Value ∷ Exact Item.Closing ∷ rest) item
      → Then (advance most known Symbol.Value item stack)
  value_complete known item stack rest fills (Leads.one st r) = absurd st
  value_complete known item stack rest fills (Leads.line parts (inl is) r) =
      let first = subject_first (lined (Exact Item.Closing ∷ rest) is r) in
      value_other known item stack
      (goes_on (ap (λ (b : Bool). taken_if b (known, Closing ∷ stack)) (is_subject-of known item first.0)) (_, _, _, (refl, refl), refl, fills) first.1)
  value_complete known item stack rest fills (Leads.line parts (inr (inl is)) r) =
      by_exact (λ (t : Item). advance most known Symbol.Value t stack) (QuotedEnd ∷ stack) (lined (Exact Item.Closing ∷ rest) is r) refl
      (_, _, _, (inl refl, refl), refl, fills)
  value_complete known item stack rest fills (Leads.line parts (inr (inr (inl is))) r) =
      by_exact (λ (t : Item). advance most known Symbol.Value t stack) (QuotedEnd ∷ stack) (lined (Exact Item.Closing ∷ rest) is r) refl
      (_, _, _, (inr (inl refl), refl), refl, fills)
  value_complete known item stack rest fills (Leads.line parts (inr (inr (inr is))) r) =
      by_exact (λ (t : Item). advance most known Symbol.Value t stack) (QuotedEnd ∷ stack) (lined (Exact Item.Closing ∷ rest) is r) refl
      (_, _, _, (inr (inr refl), refl), refl, fills)

  -- ---- the operands of an axiom

  -- an operand is taken where annotations may come
  axiom_other : (known : Known) (form : AxiomForm) (item : Item) (stack : List Symbol) → Then (inside_taken known (bare (Form.Axiom form) most) item stack)
      → Then (advance most known (Symbol.AxiomIn form) item stack)
  axiom_other known form (Word Keyword.Annotation) stack goes = absurd goes
  axiom_other known form item stack goes = goes

  -- an axiom behind its parenthesis
  axiom_complete : (known : Known) (form : AxiomForm) (a : Axiom) → IsMade form a → (item : Item) (stack : List Symbol) (rest : List Wanted) → Fills [] stack rest
      → From known (Wanted.AxiomIn form a ∷ rest) item → Then (advance most known (Symbol.AxiomIn form) item stack)
  axiom_complete known form a made item stack rest fills (Leads.one st r) = absurd st
  axiom_complete known form a made item stack rest fills (Leads.line parts (inl l) r) =
      by_note (λ (t : Item). advance most known (Symbol.AxiomIn form) t stack) most (Symbol.AxiomIn form)
      (Wanted.AxiomIn form a) parts rest stack l r refl ((a, made, refl), refl) fills
  axiom_complete known form a made item stack rest fills (Leads.line parts (inr (heads, inner, makes, is)) r) =
      let all : Completes (bare (Form.Axiom form) most) [] (operands (Form.Axiom form) most heads inner ++ ClosingOf a ∷ []) [] = record {
        heads = heads;
        parts = inner;
        made = Made.Axiom a;
        makes = ap (option_map Made.Axiom) makes;
        in_order = inr refl;
        wants = refl;
        hands = refl;
      } in
      axiom_other known form item stack (inside_complete (bare (Form.Axiom form) most) _ [] item stack rest all fills (lined rest is r))

  -- ---- any symbol

  -- the prefix is bound to the IRI
  bound_to : (known : Known) (p i : List ℕ) (stack : List Symbol) → (meaning known.prefixes p ≡ None) ⊎ (meaning known.prefixes p ≡ Some i)
      → bound known p i stack (meaning known.prefixes p) ≡ Some (with_prefix known p i, stack)
  bound_to known p i stack (inl none) = ap (bound known p i stack) none
  bound_to known p i stack (inr same) =
      ap (bound known p i stack) same ∙ ap (λ (b : Bool). taken_if b (with_prefix known p i, stack)) ((bytes_eq-Decides i i).1 refl)

  -- nothing was handed on
  none_handed : (handed : List Expr) (stack : List Symbol) (rest : List Wanted) → handed ≡ [] → Fills handed stack rest → Fills [] stack rest
  none_handed handed stack rest none fills = subst (λ (es : List Expr). Fills es stack rest) none fills

  -- what the symbol may want begins with an item that it takes
  symbol_complete : (known : Known) (symbol : Symbol) (item : Item) (stack : List Symbol) (first : List Wanted) (handed : List Expr) (rest : List Wanted)
      → Wants symbol [] first handed → Fills handed stack rest → From known (first ++ rest) item → Then (advance most known symbol item stack)
  symbol_complete known Opening item stack first handed rest (is, none) fills r =
      by_exact (λ (t : Item). advance most known Opening t stack) stack (lined rest is r) refl (none_handed handed stack rest none fills)
  symbol_complete known Closing item stack first handed rest (is, none) fills r =
      by_exact (λ (t : Item). advance most known Closing t stack) stack (lined rest is r) refl (none_handed handed stack rest none fills)
  symbol_complete known Equals item stack first handed rest (is, none) fills r =
      by_exact (λ (t : Item). advance most known Equals t stack) stack (lined rest is r) refl (none_handed handed stack rest none fills)
  symbol_complete known End item stack first handed rest (is, none) fills r =
      by_exact (λ (t : Item). advance most known End t stack) stack (lined rest is r) refl (none_handed handed stack rest none fills)
  symbol_complete known Iri item stack first handed rest (is, none) fills r =
      let first = iri_first (lined rest is r) in
      goes_on (by_iri-means known item _ first.0) (none_handed handed stack rest none fills) first.1
  symbol_complete known Symbol.Subject item stack first handed rest (is, none) fills r =
      let first = subject_first (lined rest is r) in
      goes_on (ap (λ (b : Bool). taken_if b (known, stack)) (is_subject-of known item first.0)) (none_handed handed stack rest none fills) first.1
  symbol_complete known Class item stack first handed rest ((c, is), none) fills r =
      let (i, means, numbered, more) = class_first (lined rest is r) in
      goes_on (ap (class_taken known stack) (iri_of-means known item i means)) (none_handed handed stack rest none fills) more
  symbol_complete known (Symbol.PrefixIri p) item stack first handed rest (is, none) fills r =
      let (i, full, fits, more) = prefix_first (lined rest is r) in
      goes_on (ap (λ (t : Item). advance most known (Symbol.PrefixIri p) t stack) full ∙ bound_to known p i stack fits)
      (none_handed handed stack rest none fills) more
  symbol_complete known Document item stack first handed rest (is, none) fills r =
      document_complete known item stack rest (none_handed handed stack rest none fills) (lined rest is r)
  symbol_complete known Binding item stack first handed rest ((p, is), none) fills r =
      by_exact (λ (t : Item). advance most known Binding t stack) (Equals ∷ Symbol.PrefixIri p ∷ Closing ∷ Document ∷ stack) (lined rest is r) refl (
        _,
        _,
        _,
        (refl, refl),
        refl,
        (
          _,
          _,
          _,
          (refl, refl),
          refl,
          (_, _, _, (refl, refl), refl, (_, _, _, (refl, refl), refl, none_handed handed stack rest none fills)),
        ),
      )
  symbol_complete known Symbol.OntologyIri item stack first handed rest (is, none) fills r =
      ontology_iri_complete known item stack rest (none_handed handed stack rest none fills) (lined rest is r)
  symbol_complete known VersionIri item stack first handed rest (inl is, none) fills r =
      let first = iri_first (lined rest is r) in
      goes_on (ontology_iri-means known item Symbol.Annotations stack first.0) (_, _, _, (refl, refl), refl, none_handed handed stack rest none fills) first.1
  symbol_complete known VersionIri item stack first handed rest (inr is, none) fills r =
      ontology_iri_other known item Symbol.Annotations stack (notes_complete known item stack rest (none_handed handed stack rest none fills) (lined rest is r))
  symbol_complete known Symbol.Annotations item stack first handed rest (is, none) fills r =
      notes_complete known item stack rest (none_handed handed stack rest none fills) (lined rest is r)
  symbol_complete known Symbol.Axioms item stack first handed rest (is, none) fills r =
      axioms_complete known item stack rest (none_handed handed stack rest none fills) (lined rest is r)
  symbol_complete known Symbol.DeclarationIn item stack first handed rest (is, none) fills r =
      declaration_complete known item stack rest (none_handed handed stack rest none fills) (lined rest is r)
  symbol_complete known Symbol.AssertionIn item stack first handed rest (is, none) fills r =
      assertion_complete known item stack rest (none_handed handed stack rest none fills) (lined rest is r)
  symbol_complete known Symbol.AnnotationAxiomIn item stack first handed rest (is, none) fills r =
      annotation_axiom_complete known item stack rest (none_handed handed stack rest none fills) (lined rest is r)
  symbol_complete known (Symbol.AnnotationIn n) item stack first handed rest (is, none) fills r =
      note_complete known n item stack rest (none_handed handed stack rest none fills) (lined rest is r)
  symbol_complete known Symbol.Value item stack first handed rest (is, none) fills r =
      value_complete known item stack rest (none_handed handed stack rest none fills) (lined rest is r)
  symbol_complete known QuotedEnd item stack first handed rest (inl is, none) fills r =
      by_exact (λ (t : Item). advance most known QuotedEnd t stack) stack (lined rest is r) refl (none_handed handed stack rest none fills)
  symbol_complete known QuotedEnd item stack first handed rest (inr (inl is), none) fills r =
      by_exact (λ (t : Item). advance most known QuotedEnd t stack) (Closing ∷ stack)
      (lined rest is r) refl (_, _, _, (refl, refl), refl, none_handed handed stack rest none fills)
  symbol_complete known QuotedEnd item stack first handed rest (inr (inr is), none) fills r =
      by_exact (λ (t : Item). advance most known QuotedEnd t stack) (Iri ∷ Closing ∷ stack)
      (lined rest is r) refl (_, _, _, (refl, refl), refl, (_, _, _, (refl, refl), refl, none_handed handed stack rest none fills))
  symbol_complete known (Symbol.AxiomIn form) item stack first handed rest ((a, made, is), none) fills r =
      axiom_complete known form a made item stack rest (none_handed handed stack rest none fills) (lined rest is r)
  symbol_complete known (Inside frame) item stack first handed rest c fills r = inside_complete frame first handed item stack rest c fills r

-- there is a state
state_of : (most : ℕ) (items : List Item) (known' : Known) (wanted' : List Wanted) (state : Option State) → Goes most items known' wanted' state
    → (st : State) × (state ≡ Some st) × (wanted : List Wanted) × Fills [] st.1 wanted × Leads most st.0 wanted items known' wanted'
state_of most items known' wanted' None goes = absurd goes
state_of most items known' wanted' (Some st) (wanted, fills, r) = (st, refl, wanted, fills, r)

-- a derivation from what the stack may want goes through what the machine makes of its first item
pub complete : (most : ℕ) (known : Known) (s : Symbol) (stack : List Symbol) (item : Item) (items : List Item) (all : List Wanted) (known' : Known)
    (wanted' : List Wanted)
    → Fills [] (s ∷ stack) all → Leads most known all (item ∷ items) known' wanted'
    → (st : State) × (advance most known s item stack ≡ Some st) × (wanted : List Wanted) × Fills [] st.1 wanted × Leads most st.0 wanted items known' wanted'
complete most known s stack item items all known' wanted' (first, handed, rest, wants, cut, fills) r =
    let from = subst (λ (w : List Wanted). Leads most known w (item ∷ items) known' wanted') cut r in
    state_of most items known' wanted' (advance most known s item stack)
    (symbol_complete most items known' wanted' known s item stack first handed rest wants fills from)
