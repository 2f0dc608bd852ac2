-- What the machine makes of the first item of a derivation.
use Rattle.std.proofs.Common.{◌≡◌, ℕ, zero, suc, List, [], ◌∷◌, ◌++◌, refl, sym, ap, subst, ◌∙◌}
use Rattle.std.specs.Prelude.{Option, Some, None}
use Rattle.cd_syntax.specs.declared.item.Item.{Item}
use Rattle.cd_syntax.specs.declared.item.Item.TheVariants.{Word}
use Rattle.cd_syntax.specs.declared.known.Known.{Known}
use Rattle.cd_grammar.specs.declared.symbol.Symbol.{Symbol}
use Rattle.cd_grammar.specs.declared.symbol.Symbol.TheVariants.{Opening}
use Rattle.cd_syntax.specs.declared.words.Keyword.{Keyword}
use Rattle.cd_syntax.proofs.ItemGrammar.{Wanted, Exact, IsAnyIri, Leads, opened, IsAnnotated}
use Rattle.cd_syntax.specs.Named.{iri_of}
use Rattle.cd_syntax.proofs.Items.{iri_of-means}
use Rattle.cd_syntax.proofs.Derivation.{exact_first, lined}
use Rattle.cd_grammar.specs.Machine.{State, by_iri, noted}
use Rattle.cd_grammar.proofs.Fills.{Wants, Fills}

-- an item that stands for an IRI is taken
pub by_iri-means : (known : Known) (item : Item) (state : State) → IsAnyIri known item → by_iri (iri_of known item) state ≡ Some state
by_iri-means known item state (i, m) = ap (λ (o : Option (List ℕ)). by_iri o state) (iri_of-means known item i m)

-- ---- the state behind an item

-- there is one, and the items go on from what it may want
abbrev pub Goes : ℕ → List Item → Known → List Wanted → Option State → Type 0
Goes most items known' wanted' None = ⊥
Goes most items known' wanted' (Some state) = (wanted : List Wanted) × Fills [] state.1 wanted × Leads most state.0 wanted items known' wanted'

-- by what the state is
pub goes_on : {most : ℕ} {items : List Item} {known known' : Known} {wanted wanted' : List Wanted} {stack : List Symbol} {state : Option State}
    → state ≡ Some (known, stack) → Fills [] stack wanted → Leads most known wanted items known' wanted' → Goes most items known' wanted' state
goes_on {most} {items} {known' = known'} {wanted} {wanted'} e fills r =
    subst (λ (o : Option State). Goes most items known' wanted' o) (sym e) (wanted, fills, r)

-- a line that begins with this item
pub by_exact : {most : ℕ} {items : List Item} {known known' : Known} {wanted wanted' : List Wanted} {e item : Item} (F : Item → Option State)
    (stack : List Symbol)
    → Leads most known (Exact e ∷ wanted) (item ∷ items) known' wanted' → F e ≡ Some (known, stack) → Fills [] stack wanted
    → Goes most items known' wanted' (F item)
by_exact F stack r e fills = let first = exact_first r in goes_on (ap F first.0 ∙ e) fills first.1

-- a line that begins with a word and a parenthesis
pub by_word : {most : ℕ} {items : List Item} {known known' : Known} {parts inner wanted' : List Wanted} {key : Keyword} {item : Item} (F : Item → Option State)
    (wanted : List Wanted) (stack : List Symbol)
    → parts ≡ opened key inner → Leads most known (parts ++ wanted) (item ∷ items) known' wanted' → F (Word key) ≡ Some (known, Opening ∷ stack)
    → Fills [] stack (inner ++ wanted)
    → Goes most items known' wanted' (F item)
by_word F wanted stack is r e fills = by_exact F (Opening ∷ stack) (lined wanted is r) e (_, _, _, (refl, refl), refl, fills)

-- a line that begins with an annotation
pub by_note : {most : ℕ} {items : List Item} {known known' : Known} {wanted' : List Wanted} {item : Item} (F : Item → Option State) (n : ℕ) (symbol : Symbol)
    (w : Wanted) (parts wanted : List Wanted) (stack : List Symbol)
    → IsAnnotated n w parts → Leads most known (parts ++ wanted) (item ∷ items) known' wanted' → F (Word Keyword.Annotation) ≡ noted n known (symbol ∷ stack)
    → Wants symbol [] (w ∷ []) [] → Fills [] stack wanted → Goes most items known' wanted' (F item)
by_note F zero symbol w parts wanted stack l r e wants fills = absurd l
by_note F (suc n) symbol w parts wanted stack l r e wants fills =
    by_word F wanted (Symbol.AnnotationIn n ∷ symbol ∷ stack) l r e
    (_, _, _, (refl, refl), refl, (w ∷ [], [], _, wants, refl, fills))
