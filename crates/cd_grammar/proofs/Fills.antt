-- What the symbols of the machine want, in the terms of the grammar.
use Rattle.std.proofs.Common.{◌≡◌, ◌⊎◌, ℕ, List, [], ◌∷◌, ◌++◌}
use Rattle.std.specs.Prelude.{Some}
use Rattle.cd_meaning.specs.declared.expression.Axiom.{Axiom}
use Rattle.cd_meaning.specs.declared.expression.Expr.{Expr}
use Rattle.cd_syntax.specs.declared.item.Item.{Item}
use Rattle.cd_syntax.specs.declared.item.Item.TheVariants.{Short}
use Rattle.cd_syntax.specs.declared.operands.Made.{Made}
use Rattle.cd_grammar.specs.declared.symbol.Frame.{Frame}
use Rattle.cd_grammar.specs.declared.symbol.Symbol.{Symbol}
use Rattle.cd_grammar.specs.declared.symbol.Symbol.TheVariants.{Opening, Closing, Equals, End, Iri, Class, Document, Binding, VersionIri, QuotedEnd, Inside}
use Rattle.cd_syntax.proofs.ItemGrammar.{Wanted, Exact, AnyIri, ClassOf, ClosingOf, Text, IsMade, operands}
use Rattle.cd_syntax.specs.Operands.{made_of}

-- what ends operands, and what is handed to those below
abbrev pub last_of : Made → Wanted
last_of (Made.Axiom a) = ClosingOf a
last_of (Made.Expr e) = Exact Item.Closing

abbrev pub handed_by : Made → List Expr
handed_by (Made.Axiom a) = []
handed_by (Made.Expr e) = e ∷ []

-- operands that may follow those of the frame and the given ones
pub record Completes (frame : Frame) (given : List Expr) (wanted : List Wanted) (handed : List Expr) : Type 0 where
  pub heads : List ℕ
  pub parts : List Expr
  pub made : Made
  pub makes : made_of frame.form (frame.heads ++ heads) ((frame.parts ++ given) ++ parts) ≡ Some made
  pub in_order : (heads ≡ []) ⊎ (frame.parts ++ given ≡ [])
  pub wants : wanted ≡ operands frame.form frame.nesting heads parts ++ last_of made ∷ []
  pub hands : handed ≡ handed_by made

-- the symbol, to which these expressions were handed, may want this, and then hands on those
abbrev pub Wants : Symbol → List Expr → List Wanted → List Expr → Type 0
Wants (Inside frame) given wanted handed = Completes frame given wanted handed
Wants symbol (e ∷ given) wanted handed = ⊥
Wants Opening [] wanted handed = (wanted ≡ Exact Item.Opening ∷ []) × (handed ≡ [])
Wants Closing [] wanted handed = (wanted ≡ Exact Item.Closing ∷ []) × (handed ≡ [])
Wants Equals [] wanted handed = (wanted ≡ Exact Item.Equals ∷ []) × (handed ≡ [])
Wants End [] wanted handed = (wanted ≡ Exact Item.End ∷ []) × (handed ≡ [])
Wants Iri [] wanted handed = (wanted ≡ AnyIri ∷ []) × (handed ≡ [])
Wants Symbol.Subject [] wanted handed = (wanted ≡ Wanted.Subject ∷ []) × (handed ≡ [])
Wants Class [] wanted handed = ((c : ℕ) × (wanted ≡ ClassOf c ∷ [])) × (handed ≡ [])
Wants (Symbol.PrefixIri p) [] wanted handed = (wanted ≡ Wanted.PrefixIri p ∷ []) × (handed ≡ [])
Wants Document [] wanted handed = (wanted ≡ Text ∷ []) × (handed ≡ [])
Wants Binding [] wanted handed =
    ((p : List ℕ) × (wanted ≡ Exact (Short p []) ∷ Exact Item.Equals ∷ Wanted.PrefixIri p ∷ Exact Item.Closing ∷ Text ∷ [])) × (handed ≡ [])
Wants Symbol.OntologyIri [] wanted handed = (wanted ≡ Wanted.OntologyIri ∷ []) × (handed ≡ [])
Wants VersionIri [] wanted handed = ((wanted ≡ AnyIri ∷ Wanted.Annotations ∷ []) ⊎ (wanted ≡ Wanted.Annotations ∷ [])) × (handed ≡ [])
Wants Symbol.Annotations [] wanted handed = (wanted ≡ Wanted.Annotations ∷ []) × (handed ≡ [])
Wants Symbol.Axioms [] wanted handed = (wanted ≡ Wanted.Axioms ∷ []) × (handed ≡ [])
Wants Symbol.DeclarationIn [] wanted handed = (wanted ≡ Wanted.DeclarationIn ∷ []) × (handed ≡ [])
Wants Symbol.AssertionIn [] wanted handed = (wanted ≡ Wanted.AssertionIn ∷ []) × (handed ≡ [])
Wants Symbol.AnnotationAxiomIn [] wanted handed = (wanted ≡ Wanted.AnnotationAxiomIn ∷ []) × (handed ≡ [])
Wants (Symbol.AnnotationIn n) [] wanted handed = (wanted ≡ Wanted.AnnotationIn n ∷ []) × (handed ≡ [])
Wants Symbol.Value [] wanted handed = (wanted ≡ Wanted.Value ∷ Exact Item.Closing ∷ []) × (handed ≡ [])
Wants QuotedEnd [] wanted handed =
    ((wanted ≡ Exact Item.Closing ∷ []) ⊎ (wanted ≡ Exact Item.Lang ∷ Exact Item.Closing ∷ [])
    ⊎ (wanted ≡ Exact Item.Carets ∷ AnyIri ∷ Exact Item.Closing ∷ [])) × (handed ≡ [])
Wants (Symbol.AxiomIn form) [] wanted handed = ((a : Axiom) × IsMade form a × (wanted ≡ Wanted.AxiomIn form a ∷ [])) × (handed ≡ [])

-- the stack, to whose first symbol these expressions were handed, may want this
abbrev pub Fills : List Expr → List Symbol → List Wanted → Type 0
Fills given [] wanted = (given ≡ []) × (wanted ≡ [])
Fills given (symbol ∷ stack) wanted =
    (first : List Wanted) × (handed : List Expr) × (rest : List Wanted) × Wants symbol given first handed × (wanted ≡ first ++ rest) × Fills handed stack rest
