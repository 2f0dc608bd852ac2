-- When an answer of the machine is sound, and how that follows from what the symbols want that it pushes.
use Rattle.std.proofs.Common.{◌≡◌, ℕ, Bool, true, false, List, [], ◌∷◌, ◌++◌, sym, refl, ap, subst, ◌∙◌, inl, inr, append_assoc}
use Rattle.std.specs.Prelude.{Option, Some, None, is_some}
use Rattle.cd_meaning.specs.declared.expression.Axiom.{Axiom}
use Rattle.cd_meaning.specs.declared.expression.Expr.{Expr}
use Rattle.cd_syntax.specs.declared.item.Item.{Item}
use Rattle.cd_syntax.specs.declared.item.Item.TheVariants.{Short}
use Rattle.cd_syntax.specs.declared.known.Known.{Known}
use Rattle.cd_grammar.specs.declared.symbol.Symbol.{Symbol}
use Rattle.cd_grammar.specs.declared.symbol.Symbol.TheVariants.{Opening, Closing, Equals, End, Iri, Class, Document, Binding, VersionIri, QuotedEnd, Inside}
use Rattle.cd_syntax.proofs.ItemGrammar.{Wanted, Exact, AnyIri, ClassOf, Text, IsAnyIri, IsMade, Leads}
use Rattle.cd_syntax.specs.Named.{iri_of}
use Rattle.cd_grammar.specs.Machine.{State, taken_if, by_iri}
use Rattle.cd_grammar.proofs.Fills.{Wants, Fills}
use Rattle.cd_syntax.proofs.Items.{any_iri}

-- what may follow the answer may follow, in the grammar, the symbol and the item
abbrev pub IsSoundStep : ℕ → Known → Symbol → Item → List Symbol → Option State → Type 0
IsSoundStep most known s item stack None = Unit {0}
IsSoundStep most known s item stack (Some st) = (wanted : List Wanted) → Fills [] st.1 wanted → (known' : Known) (wanted' : List Wanted) (items : List Item)
    → Leads most st.0 wanted items known' wanted' → (all : List Wanted) × Fills [] (s ∷ stack) all × Leads most known all (item ∷ items) known' wanted'

-- it holds of all that the symbol may want, if the symbol hands nothing on
abbrev pub ForWanted : Symbol → (List Wanted → Type 0) → Type 0
ForWanted Opening P = P (Exact Item.Opening ∷ [])
ForWanted Closing P = P (Exact Item.Closing ∷ [])
ForWanted Equals P = P (Exact Item.Equals ∷ [])
ForWanted End P = P (Exact Item.End ∷ [])
ForWanted Iri P = P (AnyIri ∷ [])
ForWanted Symbol.Subject P = P (Wanted.Subject ∷ [])
ForWanted Class P = (c : ℕ) → P (ClassOf c ∷ [])
ForWanted (Symbol.PrefixIri p) P = P (Wanted.PrefixIri p ∷ [])
ForWanted Document P = P (Text ∷ [])
ForWanted Binding P = (p : List ℕ) → P (Exact (Short p []) ∷ Exact Item.Equals ∷ Wanted.PrefixIri p ∷ Exact Item.Closing ∷ Text ∷ [])
ForWanted Symbol.OntologyIri P = P (Wanted.OntologyIri ∷ [])
ForWanted VersionIri P = P (AnyIri ∷ Wanted.Annotations ∷ []) × P (Wanted.Annotations ∷ [])
ForWanted Symbol.Annotations P = P (Wanted.Annotations ∷ [])
ForWanted Symbol.Axioms P = P (Wanted.Axioms ∷ [])
ForWanted Symbol.DeclarationIn P = P (Wanted.DeclarationIn ∷ [])
ForWanted Symbol.AssertionIn P = P (Wanted.AssertionIn ∷ [])
ForWanted Symbol.AnnotationAxiomIn P = P (Wanted.AnnotationAxiomIn ∷ [])
ForWanted (Symbol.AnnotationIn n) P = P (Wanted.AnnotationIn n ∷ [])
ForWanted Symbol.Value P = P (Wanted.Value ∷ Exact Item.Closing ∷ [])
ForWanted QuotedEnd P = P (Exact Item.Closing ∷ []) × P (Exact Item.Lang ∷ Exact Item.Closing ∷ []) × P (Exact Item.Carets ∷ AnyIri ∷ Exact Item.Closing ∷ [])
ForWanted (Symbol.AxiomIn form) P = (a : Axiom) → IsMade form a → P (Wanted.AxiomIn form a ∷ [])
ForWanted (Inside frame) P = ⊥

-- what the symbol wants is such, and nothing is handed on
for_wanted : (s : Symbol) (P : List Wanted → Type 0) → ForWanted s P → (wanted : List Wanted) (handed : List Expr) → Wants s [] wanted handed → P wanted × (handed ≡ [])
for_wanted Class P h wanted handed w = (subst P (sym w.0.1) (h w.0.0), w.1)
for_wanted Binding P h wanted handed w = (subst P (sym w.0.1) (h w.0.0), w.1)
for_wanted (Symbol.AxiomIn form) P h wanted handed w = (subst P (sym w.0.2) (h w.0.0 w.0.1), w.1)
for_wanted VersionIri P h wanted handed w = (elim w.0 [ inl e ↦ subst P (sym e) h.0 | inr e ↦ subst P (sym e) h.1 ], w.1)
for_wanted QuotedEnd P h wanted handed w =
    (elim w.0 [ inl e ↦ subst P (sym e) h.0 | inr f ↦ elim f [ inl e ↦ subst P (sym e) h.1 | inr e ↦ subst P (sym e) h.2 ] ], w.1)
for_wanted (Inside frame) P h wanted handed w = absurd h
for_wanted s P h wanted handed w = (subst P (sym w.0) h, w.1)

-- it holds of all that the symbols may want in turn
abbrev pub InTurn : List Symbol → (List Wanted → Type 0) → Type 0
InTurn [] P = P []
InTurn (s ∷ symbols) P = ForWanted s (λ first. InTurn symbols (λ more. P (first ++ more)))

-- what the symbols want in turn is such
in_turn : (symbols : List Symbol) (P : List Wanted → Type 0) → InTurn symbols P → (stack : List Symbol) (wanted : List Wanted) → Fills [] (symbols ++ stack) wanted
    → (first : List Wanted) × (rest : List Wanted) × P first × (wanted ≡ first ++ rest) × Fills [] stack rest
in_turn [] P h stack wanted f = ([], wanted, h, refl, f)
in_turn (s ∷ symbols) P h stack wanted f =
    let one = for_wanted s (λ first. InTurn symbols (λ more. P (first ++ more))) h f.0 f.1 f.3 in
    let more = in_turn symbols (λ more. P (f.0 ++ more)) one.0 stack f.2 (subst (λ (given : List Expr). Fills given (symbols ++ stack) f.2) one.1 f.5) in
    (f.0 ++ more.0, more.1, more.2, f.4 ∙ ap (λ (x : List Wanted). f.0 ++ x) more.3 ∙ sym (append_assoc f.0 more.0 more.1), more.4)

module _ (most : ℕ) (known : Known) (s : Symbol) (item : Item) (stack : List Symbol) where
  -- what the symbol and the item want, where what is known then, and what the pushed symbols want, is this
  abbrev pub Follows : Known → List Wanted → Type 0
  Follows after pushed = (rest : List Wanted) (known' : Known) (wanted' : List Wanted) (items : List Item) → Leads most after (pushed ++ rest) items known' wanted'
      → (first : List Wanted) × Wants s [] first [] × Leads most known (first ++ rest) (item ∷ items) known' wanted'

  -- an answer that pushes symbols
  pub pushed_sound : (after : Known) (pushed : List Symbol) → InTurn pushed (Follows after) → IsSoundStep most known s item stack (Some (after, pushed ++ stack))
  pushed_sound after pushed h wanted f known' wanted' items r =
      let whole = in_turn pushed (Follows after) h stack wanted f in
      let found = whole.2 whole.1 known' wanted' items (subst (λ (w : List Wanted). Leads most after w items known' wanted') whole.3 r) in
      (found.0 ++ whole.1, (found.0, [], whole.1, found.1, refl, whole.4), found.2)

  -- an answer on a test
  pub if_sound : (b : Bool) (state : State) → (b ≡ true → IsSoundStep most known s item stack (Some state)) → IsSoundStep most known s item stack (taken_if b state)
  if_sound false state h = tt
  if_sound true state h = h refl

-- an item that stands for an IRI
pub iri_sound : (most : ℕ) (known : Known) (s : Symbol) (item : Item) (stack pushed : List Symbol) → (IsAnyIri known item → InTurn pushed (Follows most known s item stack known))
    → IsSoundStep most known s item stack (by_iri (iri_of known item) (known, pushed ++ stack))
iri_sound most known s item stack pushed h = if_sound most known s item stack (is_some (iri_of known item)) (known, pushed ++ stack)
    (λ some. pushed_sound most known s item stack known pushed (h (any_iri known item some)))
