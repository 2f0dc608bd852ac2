-- The machine takes the documents.
use Rattle.std.proofs.Common.{◌≡◌, ℕ, zero, suc, List, [], ◌∷◌, ◌++◌, refl, ap, subst, ◌∙◌, inl, inr, arith}
use Rattle.std.specs.Prelude.{Option, Some}
use Rattle.cd_meaning.specs.declared.expression.Expr.{Expr}
use Rattle.cd_syntax.specs.declared.item.Item.{Item}
use Rattle.cd_syntax.specs.declared.known.Known.{Known}
use Rattle.cd_grammar.specs.declared.symbol.Symbol.{Symbol}
use Rattle.cd_grammar.specs.declared.symbol.Symbol.TheVariants.{Class, Document, Binding, Inside}
use Rattle.cd_syntax.specs.Grammar.{nesting, begun}
use Rattle.cd_syntax.proofs.ItemGrammar.{Wanted, Text, AxiomIn, ExprOf, IsAnnotated, Line, Leads, IsWhole}
use Rattle.cd_grammar.specs.Machine.{State, after, start}
use Rattle.cd_grammar.proofs.Complete.{complete}
use Rattle.cd_grammar.proofs.Fills.{Wants, Fills}

-- ---- what ends with nothing wanted

-- a list with one more is not empty
one_more : {X : Type 0} (xs : List X) (x : X) → [] ≡ xs ++ x ∷ [] → ⊥
one_more [] x e = cc
one_more (y ∷ xs) x e = cc

-- no annotation is empty
no_noted : (n : ℕ) (w : Wanted) → IsAnnotated n w [] → ⊥
no_noted zero w l = l
no_noted (suc n) w l = cc

-- no line is empty
no_empty : (most : ℕ) (w : Wanted) → Line most w [] → ⊥
no_empty most Text (inl (p, is)) = cc
no_empty most (AxiomIn form a) (inl l) = no_noted most (AxiomIn form a) l
no_empty most (AxiomIn form a) (inr (heads, inner, makes, is)) = one_more _ _ is
no_empty most (ExprOf n e) (inl (c, named, is)) = cc
no_empty most (ExprOf (suc n) e) (inr (form, roles, inner, makes, is)) = cc
no_empty most (ExprOf zero e) (inr built) = built
no_empty most w l = grind (arith, no_noted)

-- nor is it with what is wanted behind it
line_remains : (most : ℕ) (w : Wanted) (parts wanted : List Wanted) → Line most w parts → parts ++ wanted ≡ [] → ⊥
line_remains most w [] wanted l e = no_empty most w l
line_remains most w (p ∷ parts) wanted l e = cc

-- from nothing no item leads on
nothing_leads : {most : ℕ} {known known' : Known} {wanted wanted' : List Wanted} {item : Item} {items : List Item} → wanted ≡ []
    → Leads most known wanted (item ∷ items) known' wanted' → ⊥
nothing_leads e (Leads.one st r) = cc
nothing_leads e (Leads.line parts l r) = cc

-- without an item, only nothing leads to nothing
ended : {most : ℕ} {known known' : Known} {wanted : List Wanted} → Leads most known wanted [] known' [] → (known ≡ known') × (wanted ≡ [])
ended Leads.here = (refl, refl)
ended {most} (Leads.line {w} {wanted} parts l r) = absurd (line_remains most w parts wanted l (ended r).1)

-- a symbol wants something
no_want : (symbol : Symbol) (handed : List Expr) → Wants symbol [] [] handed → ⊥
no_want Class handed ((c, is), none) = cc
no_want Binding handed ((p, is), none) = cc
no_want (Symbol.AxiomIn form) handed ((a, made, is), none) = cc
no_want (Inside frame) handed c = one_more _ _ c.wants
no_want symbol handed wants = grind arith

-- only no symbol wants nothing
none_left : (stack : List Symbol) → Fills [] stack [] → stack ≡ []
none_left [] fills = refl
none_left (symbol ∷ stack) ([], handed, rest, wants, cut, fills) = absurd (no_want symbol handed wants)
none_left (symbol ∷ stack) (w ∷ first, handed, rest, wants, cut, fills) = absurd cc

-- ---- several items

-- a derivation from what the stack may want goes through what the machine makes of its items
pub reaches : (most : ℕ) (front : List Item) (known : Known) (stack : List Symbol) (all : List Wanted) (known' : Known) (wanted' : List Wanted)
    → Fills [] stack all → Leads most known all front known' wanted'
    → (st : State) × (after most (Some (known, stack)) front ≡ Some st) × (wanted : List Wanted) × Fills [] st.1 wanted × Leads most st.0 wanted [] known' wanted'
reaches most [] known stack all known' wanted' fills r = ((known, stack), refl, all, fills, r)
reaches most (item ∷ front) known [] all known' wanted' fills r = absurd (nothing_leads fills.1 r)
reaches most (item ∷ front) known (s ∷ stack) all known' wanted' fills r =
    let (next, taken, wanted, more, onwards) = complete most known s stack item front all known' wanted' fills r in
    let (st, last, left, filled, end) = reaches most front next.0 next.1 wanted known' wanted' more onwards in
    (st, ap (λ (state : Option State). after most state front) taken ∙ last, left, filled, end)

-- the machine takes the items of a document
pub takes : (items : List Item) (known : Known) → IsWhole items known → after nesting start items ≡ Some (known, [])
takes items known r =
    let (st, taken, wanted, fills, end) =
    reaches nesting items begun (Document ∷ []) (Text ∷ []) known [] (Text ∷ [], [], [], (refl, refl), refl, (refl, refl)) r in
    let (same, none) = ended end in
    let empty = none_left st.1 (subst (λ (w : List Wanted). Fills [] st.1 w) none fills) in
    taken ∙ ap (λ (k : Known). Some (k, st.1)) same ∙ ap (λ (stack : List Symbol). Some (known, stack)) empty
