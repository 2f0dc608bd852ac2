-- The machine stops at the first fault, with its cause.
use Rattle.std.proofs.Common.{◌≡◌, List, [], ◌∷◌, ◌++◌, ap, ◌∙◌}
use Rattle.std.specs.Prelude.{Option, Some, None}
use Rattle.cd_syntax.specs.declared.item.Item.{Item}
use Rattle.cd_syntax.specs.declared.known.Known.{Known}
use Rattle.cd_grammar.specs.declared.symbol.Symbol.{Symbol}
use Rattle.cd_grammar.specs.Causes.{cause_of}
use Rattle.cd_syntax.proofs.ItemFault.{IsFront, IsFault}
use Rattle.cd_syntax.specs.Grammar.{nesting}
use Rattle.cd_grammar.specs.Machine.{State, step, after, start}
use Rattle.cd_grammar.proofs.Causes.{causes}
use Rattle.cd_grammar.proofs.Runs.{after-append, is_front, front_reaches}

-- no document begins with the front and the item
stuck_front : (front : List Item) (state : State) (item : Item) → after nesting start front ≡ Some state → step nesting (Some state) item ≡ None
    → IsFront nesting (front ++ item ∷ []) → ⊥
stuck_front front state item run stuck is =
    let (end, taken) = front_reaches nesting (front ++ item ∷ []) is in
    let none : after nesting start (front ++ item ∷ []) ≡ None = after-append nesting start front (item ∷ []) ∙ ap (λ (o : Option State). step nesting o item) run ∙ stuck in
    cc

-- where the machine is stuck is a fault, and its cause is the one that the machine finds
pub faults : (front : List Item) (known : Known) (stack : List Symbol) (item : Item) → after nesting start front ≡ Some (known, stack)
    → step nesting (Some (known, stack)) item ≡ None → IsFault front item (cause_of known stack item)
faults front known stack item run stuck =
    (is_front nesting front (known, stack) run, λ is. stuck_front front (known, stack) item run stuck is, causes front known stack run item stuck)
