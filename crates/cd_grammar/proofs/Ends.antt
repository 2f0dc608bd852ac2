-- Once the end of the text is taken, nothing more is wanted.
use Rattle.std.proofs.Common.{◌≡◌, ℕ, Bool, true, false, ◌||◌, not, List, [], ◌∷◌, ◌++◌, refl, sym, subst, ◌∙◌}
use Rattle.std.specs.Prelude.{Option, Some, None}
use Rattle.std.proofs.lemmas.Bool.{and_parts, not-true, both_ways}
use Rattle.cd_syntax.specs.declared.item.Item.{Item}
use Rattle.cd_syntax.specs.declared.known.Known.{Known}
use Rattle.cd_grammar.specs.declared.symbol.Symbol.{Symbol}
use Rattle.cd_grammar.specs.declared.symbol.Symbol.TheVariants.{End}
use Rattle.cd_syntax.specs.Grammar.{nesting}
use Rattle.cd_grammar.specs.Machine.{State, advance, step, after, start}
use Rattle.cd_grammar.proofs.Kept.{kept, all_fit}
use Rattle.cd_grammar.proofs.Moves.{carries_end, ends_by, replaced_ends, Moves}

-- no symbol but the last leads to the end
abbrev Ends : List Symbol → Type 0
Ends [] = Unit {0}
Ends (symbol ∷ stack) = (carries_end symbol ≡ true → stack ≡ []) × Ends stack

may_carry : (symbol : Symbol) (b : Bool) (stack : List Symbol) → b || not (carries_end symbol) ≡ true → (b ≡ true → stack ≡ []) → carries_end symbol ≡ true → stack ≡ []
may_carry symbol true stack may none carries = none refl
may_carry symbol false stack may none carries = absurd (both_ways (carries_end symbol) (not-true (carries_end symbol) may) carries)

ends_before : (b : Bool) (parts stack : List Symbol) → ends_by b parts ≡ true → (b ≡ true → stack ≡ []) → Ends stack → Ends (parts ++ stack)
ends_before b [] stack may none ends = ends
ends_before b (symbol ∷ []) stack may none ends = (may_carry symbol b stack may none, ends)
ends_before b (symbol ∷ next ∷ more) stack may none ends =
    let both = and_parts (not (carries_end symbol)) (ends_by b (next ∷ more)) may in
    (λ carries. absurd (both_ways (carries_end symbol) (not-true (carries_end symbol) both.0) carries), ends_before b (next ∷ more) stack both.1 none ends)

ends_kept : (n : ℕ) (known known' : Known) (item : Item) (stack stack' : List Symbol) → Unit {0} → Ends stack
    → Moves nesting known item stack known' stack' → Ends stack'
ends_kept n known known' item stack stack' fits h (Moves.passes {symbol = symbol} {stack = rest} parts may) =
    ends_before (carries_end symbol) parts rest (replaced_ends symbol parts may) h.0 h.1
ends_kept n known known' item stack stack' fits h (Moves.binds p i is) = h.1
ends_kept n known known' item stack stack' fits h (Moves.names i is) = h.1
ends_kept n known known' item stack stack' fits h (Moves.heads_class frame i behind is kind) = (λ none. cc, h.1)
ends_kept n known known' item stack stack' fits h (Moves.heads_role frame i behind is kind) = (λ none. cc, h.1)
ends_kept n known known' item stack stack' fits h (Moves.parts_class frame i behind is) = (λ none. cc, h.1)
ends_kept n known known' item stack stack' fits h (Moves.deepens frame form depth behind) = (λ none. cc, (λ none. cc, (λ none. cc, h.1)))
ends_kept n known known' item stack stack' fits h (Moves.ends_axiom frame a behind makes) = h.1
ends_kept n known known' item stack stack' fits h (Moves.ends_expression frame below e behind makes) = (λ none. cc, h.1.1)

-- ---- the last item

after_append : (state : Option State) (front more : List Item) → after nesting state (front ++ more) ≡ after nesting (after nesting state front) more
after_append state [] more = refl
after_append state (item ∷ front) more = after_append (step nesting state item) front more

-- only where it is wanted may the end stand
abbrev IsEndTaken : List Symbol → Option State → Type 0
IsEndTaken stack None = Unit {0}
IsEndTaken stack (Some state) = Ends stack → state.1 ≡ []

end_advances : (known : Known) (symbol : Symbol) (stack : List Symbol) → IsEndTaken (symbol ∷ stack) (advance nesting known symbol Item.End stack)
end_advances known End stack = λ ends. ends.0 refl
end_advances known symbol stack = tt

last_step : (front : List Item) (state : Option State) (known : Known) (stack : List Symbol) → after nesting start front ≡ state
    → step nesting state Item.End ≡ Some (known, stack) → stack ≡ []
last_step front None known stack leads last = cc
last_step front (Some (before, [])) known stack leads last = cc
last_step front (Some (before, symbol ∷ rest)) known stack leads last =
    let Kept : ℕ → Known → List Symbol → Type 0 = λ n known wanted. Ends wanted in
    let ends = kept Kept (λ (item : Item). Unit {0}) ends_kept ((λ carries. refl), tt) front before (symbol ∷ rest) (all_fit front) leads in
    subst (IsEndTaken (symbol ∷ rest)) last (end_advances before symbol rest) ends

-- the end is taken last
pub ends_empty : (front : List Item) (known : Known) (stack : List Symbol) → after nesting start (front ++ Item.End ∷ []) ≡ Some (known, stack) → stack ≡ []
ends_empty front known stack leads = last_step front (after nesting start front) known stack refl (sym (after_append start front (Item.End ∷ [])) ∙ leads)
