-- Every stack that the machine reaches can be completed.
use Rattle.std.proofs.Common.{◌≡◌, ℕ, ◌+◌, List, [], ◌∷◌, ◌++◌, length, refl, sym, subst, inl, inr, arith, append-nil, length-append}
use Rattle.std.specs.Prelude.{Option, Some, None}
use Rattle.cd_meaning.specs.declared.expression.Expr.{Expr}
use Rattle.cd_names.specs.Names.{number}
use Rattle.cd_names.specs.Prefixes.{meaning}
use Rattle.cd_syntax.specs.declared.item.Item.{Item}
use Rattle.cd_syntax.specs.declared.item.Item.TheVariants.{Word, Short, FullIri}
use Rattle.cd_syntax.specs.declared.known.Known.{Known}
use Rattle.cd_grammar.specs.declared.symbol.Symbol.{Symbol}
use Rattle.cd_grammar.specs.declared.symbol.Symbol.TheVariants.{Opening, Closing, Equals, End, Iri, Class, Document, Binding, VersionIri, QuotedEnd, Inside}
use Rattle.cd_syntax.specs.declared.words.Form.{Form}
use Rattle.cd_syntax.specs.declared.words.Keyword.{Keyword}
use Rattle.cd_syntax.specs.Grammar.{with_class, with_prefix}
use Rattle.cd_syntax.proofs.ItemGrammar.{Wanted, Exact, AnyIri, ClassOf, Text, Stands, Leads, opened}
use Rattle.cd_grammar.specs.Machine.{bare}
use Rattle.cd_grammar.proofs.SoundOperands.{axiom_line}
use Rattle.cd_grammar.proofs.Fills.{Wants, Fills}
use Rattle.cd_grammar.proofs.Pending.{joined, IsPending, pending_bare, handed_on, any_iri, any_name, finishes}

-- ---- symbols

-- items for what the symbol wants, which hands nothing on
abbrev Passes : ℕ → Known → Symbol → Type 0
Passes most known (Inside frame) = Unit {0}
Passes most known symbol = (first : List Wanted) × (items : List Item) × (after : Known) × Wants symbol [] first [] × Leads most known first items after []

-- no axiom follows, and the text ends
axioms_met : (most : ℕ) (known : Known) → Leads most known (Wanted.Axioms ∷ []) (Item.Closing ∷ Item.End ∷ []) known []
axioms_met most known = Leads.line (Exact Item.Closing ∷ Exact Item.End ∷ []) (inr (inr (inr (inr refl)))) (Leads.one (refl, refl) (Leads.one (refl, refl) Leads.here))

-- nor an annotation
notes_met : (most : ℕ) (known : Known) → Leads most known (Wanted.Annotations ∷ []) (Item.Closing ∷ Item.End ∷ []) known []
notes_met most known = Leads.line (Wanted.Axioms ∷ []) (inr refl) (axioms_met most known)

-- nor an IRI
ontology_met : (most : ℕ) (known : Known) → Leads most known (Wanted.OntologyIri ∷ []) (Item.Closing ∷ Item.End ∷ []) known []
ontology_met most known = Leads.line (Wanted.Annotations ∷ []) (inl refl) (notes_met most known)

-- an ontology without IRIs, annotations and axioms
abbrev text_items : List Item
text_items = Word Keyword.Ontology ∷ Item.Opening ∷ Item.Closing ∷ Item.End ∷ []

-- such an ontology is a text
text_met : (most : ℕ) (known : Known) → Leads most known (Text ∷ []) text_items known []
text_met most known = Leads.line (opened Keyword.Ontology (Wanted.OntologyIri ∷ [])) (inr refl) (Leads.one (refl, refl) (Leads.one (refl, refl) (ontology_met most known)))

-- an IRI that the prefix may have: the one that it has, or any
prefix_met : (known : Known) (p : List ℕ) (o : Option (List ℕ)) → meaning known.prefixes p ≡ o
    → (i : List ℕ) × (after : Known) × Stands known (Wanted.PrefixIri p) (FullIri i) after
prefix_met known p None e = (any_iri, with_prefix known p any_iri, (any_iri, refl, inl e, refl))
prefix_met known p (Some i) e = (i, with_prefix known p i, (i, refl, inr e, refl))

-- an IRI is the value of an annotation
value_met : (most : ℕ) (known : Known) → Leads most known (Wanted.Value ∷ Exact Item.Closing ∷ []) (any_name ∷ Item.Closing ∷ []) known []
value_met most known = Leads.line (Wanted.Subject ∷ []) (inl refl) (Leads.one (inl (any_iri, refl), refl) (Leads.one (refl, refl) Leads.here))

-- each symbol, but for operands, is completed by some items
passes : (most : ℕ) (known : Known) (symbol : Symbol) → Passes most known symbol
passes most known Opening = (Exact Item.Opening ∷ [], Item.Opening ∷ [], known, (refl, refl), Leads.one (refl, refl) Leads.here)
passes most known Closing = (Exact Item.Closing ∷ [], Item.Closing ∷ [], known, (refl, refl), Leads.one (refl, refl) Leads.here)
passes most known Equals = (Exact Item.Equals ∷ [], Item.Equals ∷ [], known, (refl, refl), Leads.one (refl, refl) Leads.here)
passes most known End = (Exact Item.End ∷ [], Item.End ∷ [], known, (refl, refl), Leads.one (refl, refl) Leads.here)
passes most known Iri = (AnyIri ∷ [], any_name ∷ [], known, (refl, refl), Leads.one ((any_iri, refl), refl) Leads.here)
passes most known Symbol.Subject = (Wanted.Subject ∷ [], any_name ∷ [], known, (refl, refl), Leads.one (inl (any_iri, refl), refl) Leads.here)
passes most known Class =
    (ClassOf (number known.classes any_iri) ∷ [], any_name ∷ [], with_class known any_iri, ((number known.classes any_iri, refl), refl), Leads.one (any_iri, refl, refl, refl) Leads.here)
passes most known (Symbol.PrefixIri p) =
    let (i, after, stands) = prefix_met known p (meaning known.prefixes p) refl in
    (Wanted.PrefixIri p ∷ [], FullIri i ∷ [], after, (refl, refl), Leads.one stands Leads.here)
passes most known Document = (Text ∷ [], text_items, known, (refl, refl), text_met most known)
passes most known Binding =
    let (i, after, stands) = prefix_met known any_iri (meaning known.prefixes any_iri) refl in (
      Exact (Short any_iri []) ∷ Exact Item.Equals ∷ Wanted.PrefixIri any_iri ∷ Exact Item.Closing ∷ Text ∷ [],
      Short any_iri [] ∷ Item.Equals ∷ FullIri i ∷ Item.Closing ∷ text_items,
      after,
      ((any_iri, refl), refl),
      Leads.one (refl, refl) (Leads.one (refl, refl) (Leads.one stands (Leads.one (refl, refl) (text_met most after)))),
    )
passes most known Symbol.OntologyIri = (Wanted.OntologyIri ∷ [], Item.Closing ∷ Item.End ∷ [], known, (refl, refl), ontology_met most known)
passes most known VersionIri = (Wanted.Annotations ∷ [], Item.Closing ∷ Item.End ∷ [], known, (inr refl, refl), notes_met most known)
passes most known Symbol.Annotations = (Wanted.Annotations ∷ [], Item.Closing ∷ Item.End ∷ [], known, (refl, refl), notes_met most known)
passes most known Symbol.Axioms = (Wanted.Axioms ∷ [], Item.Closing ∷ Item.End ∷ [], known, (refl, refl), axioms_met most known)
passes most known Symbol.DeclarationIn = (
  Wanted.DeclarationIn ∷ [],
  Word Keyword.Entity ∷ Item.Opening ∷ any_name ∷ Item.Closing ∷ Item.Closing ∷ [],
  known,
  (refl, refl),
  Leads.line (opened Keyword.Entity (AnyIri ∷ Exact Item.Closing ∷ Exact Item.Closing ∷ [])) (inr (inr refl))
      (Leads.one (refl, refl) (Leads.one (refl, refl) (Leads.one ((any_iri, refl), refl) (Leads.one (refl, refl) (Leads.one (refl, refl) Leads.here))))),
)
passes most known Symbol.AssertionIn = (
  Wanted.AssertionIn ∷ [],
  any_name ∷ any_name ∷ any_name ∷ Item.Closing ∷ [],
  known,
  (refl, refl),
  Leads.line (AnyIri ∷ Wanted.Subject ∷ Wanted.Value ∷ Exact Item.Closing ∷ []) (inr refl)
      (Leads.one ((any_iri, refl), refl) (Leads.one (inl (any_iri, refl), refl) (value_met most known))),
)
passes most known Symbol.AnnotationAxiomIn = (
  Wanted.AnnotationAxiomIn ∷ [],
  any_name ∷ any_name ∷ Item.Closing ∷ [],
  known,
  (refl, refl),
  Leads.line (AnyIri ∷ AnyIri ∷ Exact Item.Closing ∷ []) (inr refl)
      (Leads.one ((any_iri, refl), refl) (Leads.one ((any_iri, refl), refl) (Leads.one (refl, refl) Leads.here))),
)
passes most known (Symbol.AnnotationIn n) = (
  Wanted.AnnotationIn n ∷ [],
  any_name ∷ any_name ∷ Item.Closing ∷ [],
  known,
  (refl, refl),
  Leads.line (AnyIri ∷ Wanted.Value ∷ Exact Item.Closing ∷ []) (inr refl) (Leads.one ((any_iri, refl), refl) (value_met most known)),
)
passes most known Symbol.Value = (Wanted.Value ∷ Exact Item.Closing ∷ [], any_name ∷ Item.Closing ∷ [], known, (refl, refl), value_met most known)
passes most known QuotedEnd = (Exact Item.Closing ∷ [], Item.Closing ∷ [], known, (inl refl, refl), Leads.one (refl, refl) Leads.here)
passes most known (Symbol.AxiomIn form) =
    let (first, handed, items, after, completes, size, leads) = finishes most known (bare (Form.Axiom form) most) [] (pending_bare (Form.Axiom form)) in
    let (a, none, l, made) = axiom_line form most first handed completes in (
      Wanted.AxiomIn form a ∷ [],
      items,
      after,
      ((a, made, refl), refl),
      Leads.line first l (subst (λ (wanted : List Wanted). Leads most known wanted items after []) (sym (append-nil first)) leads),
    )
passes most known (Inside frame) = tt

-- ---- stacks

-- every symbol of the stack can be completed, where so many expressions are handed to the first
abbrev pub IsClosable : ℕ → List Symbol → Type 0
IsClosable n [] = n ≡ 0
IsClosable n (Inside frame ∷ stack) = IsPending frame.form (length frame.heads) (length frame.parts + n) × IsClosable (handed_on frame.form) stack
IsClosable n (symbol ∷ stack) = (n ≡ 0) × IsClosable 0 stack

-- some items complete the stack, to which these expressions were handed
abbrev pub Closes : ℕ → List Expr → Known → List Symbol → Type 0
Closes most given known stack = (wanted : List Wanted) × (items : List Item) × (known' : Known) × Fills given stack wanted × Leads most known wanted items known' []

-- items for the first symbol, and items for those behind it
closed_by : (most : ℕ) (given : List Expr) (known : Known) (symbol : Symbol) (stack : List Symbol) (first : List Wanted) (handed : List Expr) (items : List Item) (after : Known)
    → Wants symbol given first handed → Leads most known first items after [] → Closes most handed after stack → Closes most given known (symbol ∷ stack)
closed_by most given known symbol stack first handed items after wants leads (rest, more, known', fills, next) =
    (first ++ rest, items ++ more, known', (first, handed, rest, wants, refl, fills), joined most known first items after rest more known' [] leads next)

-- some items complete a stack whose symbols can be completed, whatever is known
pub closes : (most : ℕ) (stack : List Symbol) (given : List Expr) → IsClosable (length given) stack → (known : Known) → Closes most given known stack
closes most [] [] closable known = ([], [], known, (refl, refl), Leads.here)
closes most [] (e ∷ given) closable known = absurd (omega arith)
closes most (Inside frame ∷ stack) given closable known =
    let (first, handed, items, after, completes, size, leads) = finishes most known frame given
    (subst (IsPending frame.form (length frame.heads)) (sym (length-append frame.parts given)) closable.0) in
    closed_by most given known (Inside frame) stack first handed items after completes leads
    (closes most stack handed (subst (λ (n : ℕ). IsClosable n stack) (sym size) closable.1) after)
closes most (symbol ∷ stack) (e ∷ given) closable known = absurd (omega arith)
closes most (symbol ∷ stack) [] closable known =
    let (first, items, after, wants, leads) = passes most known symbol in
    closed_by most [] known symbol stack first [] items after wants leads (closes most stack [] closable.1 after)
