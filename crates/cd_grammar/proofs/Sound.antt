-- What the machine takes is in the grammar.
use Rattle.std.proofs.Common.{◌≡◌, ℕ, zero, suc, List, [], ◌∷◌, ◌++◌, sym, refl, ap, subst, ◌∙◌, inl, inr}
use Rattle.std.specs.Prelude.{Option, Some, None}
use Rattle.std.specs.Str.{bytes_eq}
use Rattle.std.proofs.lemmas.Slice.Eq.{bytes_eq-Decides}
use Rattle.cd_names.specs.Names.{number}
use Rattle.cd_names.specs.Prefixes.{meaning}
use Rattle.cd_syntax.specs.declared.item.Item.{Item}
use Rattle.cd_syntax.specs.declared.item.Item.TheVariants.{Word, Short, FullIri}
use Rattle.cd_syntax.specs.declared.known.Known.{Known}
use Rattle.cd_grammar.specs.declared.symbol.Symbol.{Symbol}
use Rattle.cd_grammar.specs.declared.symbol.Symbol.TheVariants.{Opening, Closing, Equals, End, Iri, Class, Document, Binding, VersionIri, QuotedEnd, Inside}
use Rattle.cd_syntax.specs.declared.words.AxiomForm.{AxiomForm}
use Rattle.cd_syntax.specs.declared.words.Form.{Form}
use Rattle.cd_syntax.specs.declared.words.Keyword.{Keyword}
use Rattle.cd_syntax.specs.Grammar.{with_class, with_prefix}
use Rattle.cd_syntax.proofs.ItemGrammar.{Wanted, Exact, AnyIri, ClassOf, Text, IsAnyIri, IsAnnotated, Line, Leads, opened}
use Rattle.cd_syntax.specs.Named.{iri_of, is_subject}
use Rattle.cd_grammar.specs.Machine.{State, class_taken, bound, noted, bare, axioms_taken, notes_taken, ontology_iri_taken, inside_taken, advance}
use Rattle.cd_grammar.proofs.Fills.{Wants, Fills}
use Rattle.cd_syntax.proofs.Items.{means, subject}
use Rattle.cd_grammar.proofs.SoundForms.{IsSoundStep, InTurn, Follows, pushed_sound, if_sound, iri_sound}
use Rattle.cd_grammar.proofs.SoundOperands.{inside_sound, axiom_sound}

module _ (most : ℕ) (known : Known) where
  -- ---- annotations

  -- the symbol may want what begins with this
  abbrev Begins : Symbol → Wanted → Type 0
  Begins s w = (rest : List Wanted) (known' : Known) (wanted' : List Wanted) (items : List Item) → Leads most known (w ∷ rest) items known' wanted'
      → (first : List Wanted) × Wants s [] first [] × Leads most known (first ++ rest) items known' wanted'

  -- an annotation before what is wanted
  annotated : (w : Wanted) (n m : ℕ) → n ≡ suc m → ((parts : List Wanted) → IsAnnotated n w parts → Line most w parts)
      → (rest : List Wanted) (known' : Known) (wanted' : List Wanted) (items : List Item) → Leads most known (Exact Item.Opening ∷ Wanted.AnnotationIn m ∷ w ∷ rest) items known' wanted'
      → Leads most known (w ∷ rest) (Word Keyword.Annotation ∷ items) known' wanted'
  annotated w n m at line rest known' wanted' items r =
      let parts = opened Keyword.Annotation (Wanted.AnnotationIn m ∷ w ∷ []) in
      Leads.line parts (line parts (subst (λ (k : ℕ). IsAnnotated k w parts) (sym at) refl)) (Leads.one (refl, refl) r)

  -- the word of an annotation, before what the symbol may want next
  noted_sound : (s next : Symbol) (stack : List Symbol) (n : ℕ)
      → ((m : ℕ) → n ≡ suc m → InTurn (Opening ∷ Symbol.AnnotationIn m ∷ next ∷ []) (Follows most known s (Word Keyword.Annotation) stack known))
      → IsSoundStep most known s (Word Keyword.Annotation) stack (noted n known (next ∷ stack))
  noted_sound s next stack zero h = tt
  noted_sound s next stack (suc m) h = pushed_sound most known s (Word Keyword.Annotation) stack known (Opening ∷ Symbol.AnnotationIn m ∷ next ∷ []) (h m refl)

  -- an item where axioms are wanted
  axioms_sound : (s : Symbol) (item : Item) (stack : List Symbol) → Begins s Wanted.Axioms → IsSoundStep most known s item stack (axioms_taken known item stack)
  axioms_sound s (Word Keyword.Declaration) stack begins =
      pushed_sound most known s (Word Keyword.Declaration) stack known (Opening ∷ Symbol.DeclarationIn ∷ Symbol.Axioms ∷ [])
      (λ rest known' wanted' items r. begins rest known' wanted' (Word Keyword.Declaration ∷ items)
      (Leads.line (opened Keyword.Declaration (Wanted.DeclarationIn ∷ Wanted.Axioms ∷ [])) (inl refl) (Leads.one (refl, refl) r)))
  axioms_sound s (Word (Keyword.Axiom form)) stack begins =
      pushed_sound most known s (Word (Keyword.Axiom form)) stack known (Opening ∷ Symbol.AxiomIn form ∷ Symbol.Axioms ∷ [])
      (λ a made rest known' wanted' items r. begins rest known' wanted' (Word (Keyword.Axiom form) ∷ items)
      (Leads.line (opened (Keyword.Axiom form) (Wanted.AxiomIn form a ∷ Wanted.Axioms ∷ [])) (inr (inl (form, a, made, refl))) (Leads.one (refl, refl) r)))
  axioms_sound s (Word Keyword.AnnotationAssertion) stack begins =
      pushed_sound most known s (Word Keyword.AnnotationAssertion) stack known (Opening ∷ Symbol.AssertionIn ∷ Symbol.Axioms ∷ [])
      (λ rest known' wanted' items r. begins rest known' wanted' (Word Keyword.AnnotationAssertion ∷ items)
      (Leads.line (opened Keyword.AnnotationAssertion (Wanted.AssertionIn ∷ Wanted.Axioms ∷ [])) (inr (inr (inl refl))) (Leads.one (refl, refl) r)))
  axioms_sound s (Word Keyword.AnnotationAxiom) stack begins =
      pushed_sound most known s (Word Keyword.AnnotationAxiom) stack known (Opening ∷ Symbol.AnnotationAxiomIn ∷ Symbol.Axioms ∷ [])
      (λ rest known' wanted' items r. begins rest known' wanted' (Word Keyword.AnnotationAxiom ∷ items)
      (Leads.line (opened Keyword.AnnotationAxiom (Wanted.AnnotationAxiomIn ∷ Wanted.Axioms ∷ [])) (inr (inr (inr (inl refl)))) (Leads.one (refl, refl) r)))
  axioms_sound s Item.Closing stack begins =
      pushed_sound most known s Item.Closing stack known (End ∷ [])
      (λ rest known' wanted' items r. begins rest known' wanted' (Item.Closing ∷ items)
      (Leads.line (Exact Item.Closing ∷ Exact Item.End ∷ []) (inr (inr (inr (inr refl)))) (Leads.one (refl, refl) r)))
  axioms_sound s item stack begins = tt

  -- an item where the ontology's annotations are wanted
  notes_sound : (s : Symbol) (item : Item) (stack : List Symbol) → Begins s Wanted.Annotations → IsSoundStep most known s item stack (notes_taken most known item stack)
  notes_sound s (Word Keyword.Annotation) stack begins = noted_sound s Symbol.Annotations stack most
      (λ m at rest known' wanted' items r. begins rest known' wanted' (Word Keyword.Annotation ∷ items)
      (annotated Wanted.Annotations most m at (λ parts l. inl l) rest known' wanted' items r))
  notes_sound s item stack begins = axioms_sound s item stack
      (λ rest known' wanted' items r. begins rest known' wanted' items (Leads.line (Wanted.Axioms ∷ []) (inr refl) r))

  -- ---- the ontology's IRIs

  -- an item where an IRI of the ontology may stand
  ontology_iri_sound : (s next : Symbol) (item : Item) (stack : List Symbol) → (IsAnyIri known item → InTurn (next ∷ []) (Follows most known s item stack known))
      → Begins s Wanted.Annotations → IsSoundStep most known s item stack (ontology_iri_taken most known item next stack)
  ontology_iri_sound s next (FullIri i) stack h begins = iri_sound most known s (FullIri i) stack (next ∷ []) h
  ontology_iri_sound s next (Short p l) stack h begins = iri_sound most known s (Short p l) stack (next ∷ []) h
  ontology_iri_sound s next item stack h begins = notes_sound s item stack begins

  -- an item where the ontology's IRI is wanted: what follows says whether one IRI or two stand
  ontology_sound : (item : Item) (stack : List Symbol) → IsSoundStep most known Symbol.OntologyIri item stack (ontology_iri_taken most known item VersionIri stack)
  ontology_sound item stack = ontology_iri_sound Symbol.OntologyIri VersionIri item stack
      (λ iri. (
        (λ rest known' wanted' items r. (Wanted.OntologyIri ∷ [], (refl, refl), Leads.line (AnyIri ∷ AnyIri ∷ Wanted.Annotations ∷ []) (inr (inr refl)) (Leads.one (iri, refl) r))),
        (λ rest known' wanted' items r. (Wanted.OntologyIri ∷ [], (refl, refl), Leads.line (AnyIri ∷ Wanted.Annotations ∷ []) (inr (inl refl)) (Leads.one (iri, refl) r))),
      ))
      (λ rest known' wanted' items r. (Wanted.OntologyIri ∷ [], (refl, refl), Leads.line (Wanted.Annotations ∷ []) (inl refl) r))

  -- an item where the ontology's version IRI is wanted
  version_sound : (item : Item) (stack : List Symbol) → IsSoundStep most known VersionIri item stack (ontology_iri_taken most known item Symbol.Annotations stack)
  version_sound item stack = ontology_iri_sound VersionIri Symbol.Annotations item stack
      (λ iri rest known' wanted' items r. (AnyIri ∷ Wanted.Annotations ∷ [], (inl refl, refl), Leads.one (iri, refl) r))
      (λ rest known' wanted' items r. (Wanted.Annotations ∷ [], (inr refl, refl), r))

  -- ---- values

  -- a string: what follows says whether a language or a datatype stands behind it
  quoted_sound : (stack : List Symbol) → IsSoundStep most known Symbol.Value Item.Quoted stack (Some (known, QuotedEnd ∷ stack))
  quoted_sound stack = pushed_sound most known Symbol.Value Item.Quoted stack known (QuotedEnd ∷ []) (
    (λ rest known' wanted' items r. (Wanted.Value ∷ Exact Item.Closing ∷ [], (refl, refl), Leads.line (Exact Item.Quoted ∷ []) (inr (inl refl)) (Leads.one (refl, refl) r))),
    (λ rest known' wanted' items r.
        (Wanted.Value ∷ Exact Item.Closing ∷ [], (refl, refl), Leads.line (Exact Item.Quoted ∷ Exact Item.Lang ∷ []) (inr (inr (inl refl))) (Leads.one (refl, refl) r))),
    (λ rest known' wanted' items r.
        (Wanted.Value ∷ Exact Item.Closing ∷ [], (refl, refl), Leads.line (Exact Item.Quoted ∷ Exact Item.Carets ∷ AnyIri ∷ []) (inr (inr (inr refl))) (Leads.one (refl, refl) r))),
  )

  -- an item where the value of an annotation is wanted
  value_sound : (item : Item) (stack : List Symbol) → IsSoundStep most known Symbol.Value item stack (advance most known Symbol.Value item stack)
  value_sound Item.Quoted stack = quoted_sound stack
  value_sound item stack = if_sound most known Symbol.Value item stack (is_subject known item) (known, Closing ∷ stack)
      (λ is. pushed_sound most known Symbol.Value item stack known (Closing ∷ [])
      (λ rest known' wanted' items r. (Wanted.Value ∷ Exact Item.Closing ∷ [], (refl, refl), Leads.line (Wanted.Subject ∷ []) (inl refl) (Leads.one (subject known item is, refl) r))))

  -- an item behind a string
  quoted_end_sound : (item : Item) (stack : List Symbol) → IsSoundStep most known QuotedEnd item stack (advance most known QuotedEnd item stack)
  quoted_end_sound Item.Closing stack = pushed_sound most known QuotedEnd Item.Closing stack known []
      (λ rest known' wanted' items r. (Exact Item.Closing ∷ [], (inl refl, refl), Leads.one (refl, refl) r))
  quoted_end_sound Item.Lang stack = pushed_sound most known QuotedEnd Item.Lang stack known (Closing ∷ [])
      (λ rest known' wanted' items r. (Exact Item.Lang ∷ Exact Item.Closing ∷ [], (inr (inl refl), refl), Leads.one (refl, refl) r))
  quoted_end_sound Item.Carets stack = pushed_sound most known QuotedEnd Item.Carets stack known (Iri ∷ Closing ∷ [])
      (λ rest known' wanted' items r. (Exact Item.Carets ∷ AnyIri ∷ Exact Item.Closing ∷ [], (inr (inr refl), refl), Leads.one (refl, refl) r))
  quoted_end_sound item stack = tt

  -- ---- what may be annotated

  -- an item in an annotation
  note_sound : (n : ℕ) (item : Item) (stack : List Symbol) → IsSoundStep most known (Symbol.AnnotationIn n) item stack (advance most known (Symbol.AnnotationIn n) item stack)
  note_sound n (Word Keyword.Annotation) stack = noted_sound (Symbol.AnnotationIn n) (Symbol.AnnotationIn n) stack n
      (λ m at rest known' wanted' items r. (Wanted.AnnotationIn n ∷ [], (refl, refl), annotated (Wanted.AnnotationIn n) n m at (λ parts l. inl l) rest known' wanted' items r))
  note_sound n item stack = iri_sound most known (Symbol.AnnotationIn n) item stack (Symbol.Value ∷ [])
      (λ iri rest known' wanted' items r.
      (Wanted.AnnotationIn n ∷ [], (refl, refl), Leads.line (AnyIri ∷ Wanted.Value ∷ Exact Item.Closing ∷ []) (inr refl) (Leads.one (iri, refl) r)))

  -- an item in a declaration
  declaration_sound : (item : Item) (stack : List Symbol) → IsSoundStep most known Symbol.DeclarationIn item stack (advance most known Symbol.DeclarationIn item stack)
  declaration_sound (Word Keyword.Annotation) stack = noted_sound Symbol.DeclarationIn Symbol.DeclarationIn stack most
      (λ m at rest known' wanted' items r. (Wanted.DeclarationIn ∷ [], (refl, refl), annotated Wanted.DeclarationIn most m at (λ parts l. inl l) rest known' wanted' items r))
  declaration_sound (Word Keyword.Class) stack = pushed_sound most known Symbol.DeclarationIn (Word Keyword.Class) stack known (Opening ∷ Class ∷ Closing ∷ Closing ∷ [])
      (λ c rest known' wanted' items r. (
        Wanted.DeclarationIn ∷ [],
        (refl, refl),
        Leads.line (opened Keyword.Class (ClassOf c ∷ Exact Item.Closing ∷ Exact Item.Closing ∷ [])) (inr (inl (c, refl))) (Leads.one (refl, refl) r),
      ))
  declaration_sound (Word Keyword.Entity) stack = pushed_sound most known Symbol.DeclarationIn (Word Keyword.Entity) stack known (Opening ∷ Iri ∷ Closing ∷ Closing ∷ [])
      (λ rest known' wanted' items r. (
        Wanted.DeclarationIn ∷ [],
        (refl, refl),
        Leads.line (opened Keyword.Entity (AnyIri ∷ Exact Item.Closing ∷ Exact Item.Closing ∷ [])) (inr (inr refl)) (Leads.one (refl, refl) r),
      ))
  declaration_sound item stack = tt

  -- an item in the assertion of an annotation
  assertion_sound : (item : Item) (stack : List Symbol) → IsSoundStep most known Symbol.AssertionIn item stack (advance most known Symbol.AssertionIn item stack)
  assertion_sound (Word Keyword.Annotation) stack = noted_sound Symbol.AssertionIn Symbol.AssertionIn stack most
      (λ m at rest known' wanted' items r. (Wanted.AssertionIn ∷ [], (refl, refl), annotated Wanted.AssertionIn most m at (λ parts l. inl l) rest known' wanted' items r))
  assertion_sound item stack = iri_sound most known Symbol.AssertionIn item stack (Symbol.Subject ∷ Symbol.Value ∷ [])
      (λ iri rest known' wanted' items r.
      (Wanted.AssertionIn ∷ [], (refl, refl), Leads.line (AnyIri ∷ Wanted.Subject ∷ Wanted.Value ∷ Exact Item.Closing ∷ []) (inr refl) (Leads.one (iri, refl) r)))

  -- an item in another axiom on annotations
  annotation_axiom_sound : (item : Item) (stack : List Symbol) → IsSoundStep most known Symbol.AnnotationAxiomIn item stack (advance most known Symbol.AnnotationAxiomIn item stack)
  annotation_axiom_sound (Word Keyword.Annotation) stack = noted_sound Symbol.AnnotationAxiomIn Symbol.AnnotationAxiomIn stack most
      (λ m at rest known' wanted' items r.
      (Wanted.AnnotationAxiomIn ∷ [], (refl, refl), annotated Wanted.AnnotationAxiomIn most m at (λ parts l. inl l) rest known' wanted' items r))
  annotation_axiom_sound item stack = iri_sound most known Symbol.AnnotationAxiomIn item stack (Iri ∷ Closing ∷ [])
      (λ iri rest known' wanted' items r.
      (Wanted.AnnotationAxiomIn ∷ [], (refl, refl), Leads.line (AnyIri ∷ AnyIri ∷ Exact Item.Closing ∷ []) (inr refl) (Leads.one (iri, refl) r)))

  -- an item in an axiom, before its operands
  axiom_in_sound : (form : AxiomForm) (item : Item) (stack : List Symbol) → IsSoundStep most known (Symbol.AxiomIn form) item stack (advance most known (Symbol.AxiomIn form) item stack)
  axiom_in_sound form (Word Keyword.Annotation) stack = noted_sound (Symbol.AxiomIn form) (Symbol.AxiomIn form) stack most
      (λ m at a made rest known' wanted' items r.
      (Wanted.AxiomIn form a ∷ [], ((a, made, refl), refl), annotated (Wanted.AxiomIn form a) most m at (λ parts l. inl l) rest known' wanted' items r))
  axiom_in_sound form item stack =
      axiom_sound most known form item stack (inside_taken known (bare (Form.Axiom form) most) item stack) (inside_sound most known (bare (Form.Axiom form) most) item stack)

  -- ---- the beginning of a document, and classes

  -- an item where a declared class is wanted
  class_sound : (item : Item) (stack : List Symbol) (o : Option (List ℕ)) → iri_of known item ≡ o → IsSoundStep most known Class item stack (class_taken known stack o)
  class_sound item stack None e = tt
  class_sound item stack (Some i) e =
      pushed_sound most known Class item stack (with_class known i) []
      (λ rest known' wanted' items r. let c = number known.classes i in (ClassOf c ∷ [], ((c, refl), refl), Leads.one (i, means known item i e, refl, refl) r))

  -- the IRI of a prefix
  bound_sound : (p i : List ℕ) (stack : List Symbol) (o : Option (List ℕ)) → meaning known.prefixes p ≡ o
      → IsSoundStep most known (Symbol.PrefixIri p) (FullIri i) stack (bound known p i stack o)
  bound_sound p i stack None e = pushed_sound most known (Symbol.PrefixIri p) (FullIri i) stack (with_prefix known p i) []
      (λ rest known' wanted' items r. (Wanted.PrefixIri p ∷ [], (refl, refl), Leads.one (i, refl, inl e, refl) r))
  bound_sound p i stack (Some j) e = if_sound most known (Symbol.PrefixIri p) (FullIri i) stack (bytes_eq j i) (with_prefix known p i, stack)
      (λ same. pushed_sound most known (Symbol.PrefixIri p) (FullIri i) stack (with_prefix known p i) []
      (λ rest known' wanted' items r.
      (Wanted.PrefixIri p ∷ [], (refl, refl), Leads.one (i, refl, inr (e ∙ ap (λ (x : List ℕ). Some x) ((bytes_eq-Decides j i).0 same)), refl) r)))

  -- an item where a document begins
  document_sound : (item : Item) (stack : List Symbol) → IsSoundStep most known Document item stack (advance most known Document item stack)
  document_sound (Word Keyword.Prefix) stack = pushed_sound most known Document (Word Keyword.Prefix) stack known (Opening ∷ Binding ∷ [])
      (λ p rest known' wanted' items r. (
        Text ∷ [],
        (refl, refl),
        Leads.line (opened Keyword.Prefix (Exact (Short p []) ∷ Exact Item.Equals ∷ Wanted.PrefixIri p ∷ Exact Item.Closing ∷ Text ∷ [])) (inl (p, refl)) (Leads.one (refl, refl) r),
      ))
  document_sound (Word Keyword.Ontology) stack = pushed_sound most known Document (Word Keyword.Ontology) stack known (Opening ∷ Symbol.OntologyIri ∷ [])
      (λ rest known' wanted' items r. (Text ∷ [], (refl, refl), Leads.line (opened Keyword.Ontology (Wanted.OntologyIri ∷ [])) (inr refl) (Leads.one (refl, refl) r)))
  document_sound item stack = tt

  -- an item in the declaration of a prefix
  binding_sound : (item : Item) (stack : List Symbol) → IsSoundStep most known Binding item stack (advance most known Binding item stack)
  binding_sound (Short p []) stack = pushed_sound most known Binding (Short p []) stack known (Equals ∷ Symbol.PrefixIri p ∷ Closing ∷ Document ∷ [])
      (λ rest known' wanted' items r.
      (Exact (Short p []) ∷ Exact Item.Equals ∷ Wanted.PrefixIri p ∷ Exact Item.Closing ∷ Text ∷ [], ((p, refl), refl), Leads.one (refl, refl) r))
  binding_sound item stack = tt

  -- ---- any symbol

  -- whatever is wanted, the answer is sound
  sound_answer : (s : Symbol) (item : Item) (stack : List Symbol) → IsSoundStep most known s item stack (advance most known s item stack)
  sound_answer Opening Item.Opening stack = pushed_sound most known Opening Item.Opening stack known []
      (λ rest known' wanted' items r. (Exact Item.Opening ∷ [], (refl, refl), Leads.one (refl, refl) r))
  sound_answer Closing Item.Closing stack = pushed_sound most known Closing Item.Closing stack known []
      (λ rest known' wanted' items r. (Exact Item.Closing ∷ [], (refl, refl), Leads.one (refl, refl) r))
  sound_answer Equals Item.Equals stack = pushed_sound most known Equals Item.Equals stack known []
      (λ rest known' wanted' items r. (Exact Item.Equals ∷ [], (refl, refl), Leads.one (refl, refl) r))
  sound_answer End Item.End stack = pushed_sound most known End Item.End stack known []
      (λ rest known' wanted' items r. (Exact Item.End ∷ [], (refl, refl), Leads.one (refl, refl) r))
  sound_answer Iri item stack = iri_sound most known Iri item stack [] (λ iri rest known' wanted' items r. (AnyIri ∷ [], (refl, refl), Leads.one (iri, refl) r))
  sound_answer Symbol.Subject item stack = if_sound most known Symbol.Subject item stack (is_subject known item) (known, stack)
      (λ is. pushed_sound most known Symbol.Subject item stack known []
      (λ rest known' wanted' items r. (Wanted.Subject ∷ [], (refl, refl), Leads.one (subject known item is, refl) r)))
  sound_answer Class item stack = class_sound item stack (iri_of known item) refl
  sound_answer (Symbol.PrefixIri p) (FullIri i) stack = bound_sound p i stack (meaning known.prefixes p) refl
  sound_answer Document item stack = document_sound item stack
  sound_answer Binding item stack = binding_sound item stack
  sound_answer Symbol.OntologyIri item stack = ontology_sound item stack
  sound_answer VersionIri item stack = version_sound item stack
  sound_answer Symbol.Annotations item stack = notes_sound Symbol.Annotations item stack (λ rest known' wanted' items r. (Wanted.Annotations ∷ [], (refl, refl), r))
  sound_answer Symbol.Axioms item stack = axioms_sound Symbol.Axioms item stack (λ rest known' wanted' items r. (Wanted.Axioms ∷ [], (refl, refl), r))
  sound_answer Symbol.DeclarationIn item stack = declaration_sound item stack
  sound_answer Symbol.AssertionIn item stack = assertion_sound item stack
  sound_answer Symbol.AnnotationAxiomIn item stack = annotation_axiom_sound item stack
  sound_answer (Symbol.AnnotationIn n) item stack = note_sound n item stack
  sound_answer Symbol.Value item stack = value_sound item stack
  sound_answer QuotedEnd item stack = quoted_end_sound item stack
  sound_answer (Symbol.AxiomIn form) item stack = axiom_in_sound form item stack
  sound_answer (Inside frame) item stack = inside_sound most known frame item stack
  sound_answer s item stack = tt

  -- what may follow the machine's answer may follow, in the grammar, the symbol and the item
  pub sound : (s : Symbol) (stack : List Symbol) (item : Item) (state : State) → advance most known s item stack ≡ Some state
      → (wanted : List Wanted) → Fills [] state.1 wanted → (known' : Known) (wanted' : List Wanted) (items : List Item) → Leads most state.0 wanted items known' wanted'
      → (all : List Wanted) × Fills [] (s ∷ stack) all × Leads most known all (item ∷ items) known' wanted'
  sound s stack item state e = subst (IsSoundStep most known s item stack) e (sound_answer s item stack)
