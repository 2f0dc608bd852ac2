-- Runs of the machine over items, and derivations along them.
use Rattle.std.proofs.Common.{◌≡◌, ℕ, List, [], ◌∷◌, ◌++◌, refl, sym, ◌∙◌, subst, append-nil}
use Rattle.std.specs.Prelude.{Option, Some, None}
use Rattle.cd_syntax.specs.declared.item.Item.{Item}
use Rattle.cd_syntax.specs.declared.known.Known.{Known}
use Rattle.cd_grammar.specs.declared.symbol.Symbol.{Symbol}
use Rattle.cd_grammar.specs.declared.symbol.Symbol.TheVariants.{Document}
use Rattle.cd_syntax.proofs.ItemFault.{IsFront, IsBehind}
use Rattle.cd_syntax.specs.Grammar.{begun, nesting}
use Rattle.cd_syntax.proofs.ItemGrammar.{Wanted, Text, Leads}
use Rattle.cd_grammar.specs.Machine.{State, step, after, start}
use Rattle.cd_grammar.proofs.Sound.{sound}
use Rattle.cd_grammar.proofs.Takes.{reaches}
use Rattle.cd_grammar.proofs.Closable.{Keeps, keeps}
use Rattle.cd_grammar.proofs.Closes.{IsClosable, closes}
use Rattle.cd_grammar.proofs.Fills.{Fills}

-- a run does not go on where an item could not be taken
none_after : (most : ℕ) (items : List Item) → after most None items ≡ None
none_after most [] = refl
none_after most (item ∷ items) = none_after most items

-- a run over some items, and then over others
pub after-append : (most : ℕ) (state : Option State) (front items : List Item) → after most state (front ++ items) ≡ after most (after most state front) items
after-append most state [] items = refl
after-append most state (item ∷ front) items = after-append most (step most state item) front items

-- a run that comes to its end has a state to begin with
pub began : (most : ℕ) (state : Option State) (items : List Item) (end : State) → after most state items ≡ Some end → (first : State) × (state ≡ Some first)
began most None items end run = let none = none_after most items in absurd cc
began most (Some first) items end run = (first, refl)

-- ---- derivations along a run

-- some items lead from the stack to what is known and wanted then
abbrev Derives : ℕ → State → List Item → Known → List Wanted → Type 0
Derives most state items known' wanted' = (all : List Wanted) × Fills [] state.1 all × Leads most state.0 all items known' wanted'

-- what follows from the state behind an item follows from the one before it and the item
step_derives : (most : ℕ) (known : Known) (stack : List Symbol) (item : Item) (next : State) (items : List Item) (known' : Known) (wanted' : List Wanted)
    → step most (Some (known, stack)) item ≡ Some next → Derives most next items known' wanted' → Derives most (known, stack) (item ∷ items) known' wanted'
step_derives most known [] item next items known' wanted' taken derives = absurd cc
step_derives most known (s ∷ rest) item next items known' wanted' taken (all, fills, leads) = sound most known s rest item next taken all fills known' wanted' items leads

-- what follows from the end of a run follows from its beginning, behind its items
pub comes_from : (most : ℕ) (front : List Item) (first end : State) (items : List Item) (known' : Known) (wanted' : List Wanted)
    → after most (Some first) front ≡ Some end → Derives most end items known' wanted' → Derives most first (front ++ items) known' wanted'
comes_from most [] first end items known' wanted' run derives =
    let same : first ≡ end = cc in subst (λ (state : State). Derives most state items known' wanted') (sym same) derives
comes_from most (item ∷ front) first end items known' wanted' run derives =
    let (next, taken) = began most (step most (Some first) item) front end run in
    step_derives most first.0 first.1 item next (front ++ items) known' wanted' taken
    (comes_from most front next end items known' wanted' (subst (λ (o : Option State). after most o front ≡ Some end) taken run) derives)

-- ---- stacks along a run

-- an item keeps to stacks that can be completed
step_keeps : (most : ℕ) (known : Known) (stack : List Symbol) (item : Item) (next : State) → step most (Some (known, stack)) item ≡ Some next
    → IsClosable 0 stack → IsClosable 0 next.1
step_keeps most known [] item next taken closable = absurd cc
step_keeps most known (s ∷ rest) item next taken closable = subst Keeps taken (keeps most known s item rest closable)

-- so does a run
keeps_along : (most : ℕ) (front : List Item) (first end : State) → after most (Some first) front ≡ Some end → IsClosable 0 first.1 → IsClosable 0 end.1
keeps_along most [] first end run closable = let same : first ≡ end = cc in subst (λ (state : State). IsClosable 0 state.1) same closable
keeps_along most (item ∷ front) first end run closable =
    let (next, taken) = began most (step most (Some first) item) front end run in
    keeps_along most front next end (subst (λ (o : Option State). after most o front ≡ Some end) taken run) (step_keeps most first.0 first.1 item next taken closable)

-- each stack that the machine reaches can be completed
pub closable_after : (most : ℕ) (front : List Item) (end : State) → after most start front ≡ Some end → IsClosable 0 end.1
closable_after most front end run = keeps_along most front (begun, Document ∷ []) end run (refl, refl)

-- ---- from the start

-- at the start a text is wanted
text_fills : Fills [] (Document ∷ []) (Text ∷ [])
text_fills = (Text ∷ [], [], [], (refl, refl), refl, (refl, refl))

-- and nothing else
fills_text : (all : List Wanted) → Fills [] (Document ∷ []) all → all ≡ Text ∷ []
fills_text all (first, handed, rest, (is, none), whole, (hands, empty)) = cc

-- what follows from the state behind some items stands behind them in a text
from_start : (most : ℕ) (front : List Item) (end : State) (items : List Item) (known' : Known) (wanted' : List Wanted) → after most start front ≡ Some end
    → Derives most end items known' wanted' → Leads most begun (Text ∷ []) (front ++ items) known' wanted'
from_start most front end items known' wanted' run derives =
    let (all, fills, leads) = comes_from most front (begun, Document ∷ []) end items known' wanted' run derives in
    subst (λ (w : List Wanted). Leads most begun w (front ++ items) known' wanted') (fills_text all fills) leads

-- what the machine takes is the front of a document
pub is_front : (most : ℕ) (front : List Item) (end : State) → after most start front ≡ Some end → IsFront most front
is_front most front end run =
    let (wanted, items, known', fills, leads) = closes most end.1 [] (closable_after most front end run) end.0 in
    (items, known', from_start most front end items known' [] run (wanted, fills, leads))

-- the machine takes the front of each document
pub front_reaches : (most : ℕ) (front : List Item) → IsFront most front → (end : State) × (after most start front ≡ Some end)
front_reaches most front (more, known, leads) =
    let (end, run, wanted, fills, rest) = reaches most (front ++ more) begun (Document ∷ []) (Text ∷ []) known [] text_fills leads in
    began most (after most start front) more end (sym (after-append most start front more) ∙ run)

-- what the machine's stack may want is wanted behind the items, and so is what its lines begin with
pub is_behind : (front : List Item) (state : State) → after nesting start front ≡ Some state → (wanted : List Wanted) → Fills [] state.1 wanted
    → (known' : Known) (wanted' : List Wanted) → Leads nesting state.0 wanted [] known' wanted' → IsBehind front known' wanted'
is_behind front state run wanted fills known' wanted' leads =
    subst (λ (items : List Item). IsBehind items known' wanted') (append-nil front) (from_start nesting front state [] known' wanted' run (wanted, fills, leads))

-- and nothing else
pub behind_reaches : (front : List Item) (state : State) → after nesting start front ≡ Some state → (known' : Known) (wanted' : List Wanted)
    → IsBehind front known' wanted'
    → (wanted : List Wanted) × Fills [] state.1 wanted × Leads nesting state.0 wanted [] known' wanted'
behind_reaches front state run known' wanted' behind =
    let (end, is, wanted, fills, leads) = reaches nesting front begun (Document ∷ []) (Text ∷ []) known' wanted' text_fills behind in
    let same : end ≡ state = cc in
    subst (λ (s : State). Derives nesting s [] known' wanted') same (wanted, fills, leads)
