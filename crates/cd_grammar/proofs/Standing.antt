-- Where a parser stands, in the terms of the machine.
use Rattle.std.proofs.Common.{◌≡◌, ◌<◌, ◌^◌, ◌-◌, false, List, [], ◌∷◌, ◌++◌, map, length, refl, sym, ap, ◌∙◌, arith}
use Rattle.std.proofs.lemmas.List.{length-map}
use Rattle.std.specs.Prelude.{Option, Some, None, is_some}
use Rattle.std.specs.List.{fold}
use Rattle.cd_syntax.specs.declared.known.Known.{Known}
use Rattle.cd_grammar.specs.declared.parser.Parser.{Parser}
use Rattle.cd_syntax.specs.declared.refusal.Refusal.{Refusal}
use Rattle.cd_grammar.specs.declared.symbol.Symbol.{Symbol}
use Rattle.cd_grammar.specs.Causes.{cause_of, stand_after, standing_of, Standing, Going, Stopped}
use Rattle.cd_syntax.specs.Grammar.{nesting}
use Rattle.cd_syntax.specs.Items.{PlacedItem, item_at}
use Rattle.cd_grammar.specs.Machine.{State, step, after, start}
use Rattle.cd_grammar.specs.Reading.{standing, started}
use Rattle.cd_syntax.specs.Refusal.{refusal_at}
use Rattle.cd_grammar.proofs.Few.{few}

-- what the machine says where a parser stands
abbrev state_of : Standing → Option State
state_of (Going known stack) = Some (known, stack)
state_of (Stopped refusal) = None

state_of_standing : (known : Known) (stack : List Symbol) (placed : PlacedItem) (state : Option State) → state_of (standing_of known stack placed state) ≡ state
state_of_standing known stack placed None = refl
state_of_standing known stack placed (Some state) = refl

state_after : (s : Standing) (placed : PlacedItem) → state_of (stand_after s placed) ≡ step nesting (state_of s) placed.0
state_after (Stopped refusal) placed = refl
state_after (Going known stack) placed = state_of_standing known stack placed (step nesting (Some (known, stack)) placed.0)

states_after : (items : List PlacedItem) (s : Standing) → state_of (fold stand_after s items) ≡ after nesting (state_of s) (map item_at items)
states_after [] s = refl
states_after (placed ∷ items) s =
    states_after items (stand_after s placed) ∙ ap (λ (state : Option State). after nesting state (map item_at items)) (state_after s placed)

-- a parser that goes on is in the machine's state
pub goes_on : (items : List PlacedItem) (known : Known) (stack : List Symbol) → fold stand_after started items ≡ Going known stack
    → after nesting start (map item_at items) ≡ Some (known, stack)
goes_on items known stack h = sym (states_after items started) ∙ ap state_of h

-- where the machine has a state, no parser has stopped
pub never_stopped : (items : List PlacedItem) (state : State) (refusal : Refusal) → after nesting start (map item_at items) ≡ Some state
    → fold stand_after started items ≡ Stopped refusal → ⊥
never_stopped items state refusal h stopped = let e = sym (ap state_of stopped) ∙ states_after items started ∙ h in cc

-- ---- the item at which a parser stopped

stays_stopped : (items : List PlacedItem) (refusal : Refusal) → fold stand_after (Stopped refusal) items ≡ Stopped refusal
stays_stopped [] refusal = refl
stays_stopped (placed ∷ items) refusal = stays_stopped items refusal

-- the first of the items that the machine can't take, behind this state
pub record StopsAt (state : Option State) (items : List PlacedItem) (refusal : Refusal) : Type 0 where
  pub front : List PlacedItem
  pub placed : PlacedItem
  pub later : List PlacedItem
  pub known : Known
  pub stack : List Symbol
  pub split : items ≡ front ++ placed ∷ later
  pub behind : after nesting state (map item_at front) ≡ Some (known, stack)
  pub stuck : step nesting (Some (known, stack)) placed.0 ≡ None
  pub refused : refusal ≡ refusal_at (cause_of known stack placed.0) placed.1

abbrev Finds : List PlacedItem → Type 0
Finds items = (known : Known) (stack : List Symbol) (refusal : Refusal) → fold stand_after (Going known stack) items ≡ Stopped refusal → StopsAt (Some (known, stack)) items refusal

stops_next : (placed : PlacedItem) (items : List PlacedItem) → Finds items → (known : Known) (stack : List Symbol) (refusal : Refusal) (state : Option State)
    → step nesting (Some (known, stack)) placed.0 ≡ state → fold stand_after (standing_of known stack placed state) items ≡ Stopped refusal
    → StopsAt (Some (known, stack)) (placed ∷ items) refusal
stops_next placed items finds known stack refusal None stuck h =
    let kept = stays_stopped items (refusal_at (cause_of known stack placed.0) placed.1) in
    record { front = []; placed = placed; later = items; known = known; stack = stack; split = refl; behind = refl; stuck = stuck; refused = cc }
stops_next placed items finds known stack refusal (Some state) taken h =
    let more = finds state.0 state.1 refusal h in
    record {
      front = placed ∷ more.front;
      placed = more.placed;
      later = more.later;
      known = more.known;
      stack = more.stack;
      split = ap (λ (rest : List PlacedItem). placed ∷ rest) more.split;
      behind = ap (λ (s : Option State). after nesting s (map item_at more.front)) taken ∙ more.behind;
      stuck = more.stuck;
      refused = more.refused;
    }

stops_at : (items : List PlacedItem) → Finds items
stops_at [] known stack refusal h = absurd cc
stops_at (placed ∷ items) known stack refusal h = stops_next placed items (stops_at items) known stack refusal (step nesting (Some (known, stack)) placed.0) refl h

-- a parser that stopped
pub stopped_at : (items : List PlacedItem) (refusal : Refusal) → fold stand_after started items ≡ Stopped refusal → StopsAt start items refusal
stopped_at items refusal h = stops_at items _ _ refusal h

-- ---- room for one more name

going_by : (stopped : Option Refusal) (known : Known) (stack : List Symbol) → is_some stopped ≡ false
    → standing (record { known = known; stack = stack; stopped = stopped }) ≡ Going known stack
going_by None known stack h = refl
going_by (Some refusal) known stack h = absurd cc

-- behind few items there is a number for one more class and for one more role
pub room : (parser : Parser) (items : List PlacedItem) → is_some parser.stopped ≡ false → standing parser ≡ fold stand_after started items → length items < 2 ^ 31
    → (length parser.known.classes < 2 ^ 32 - 1) × (length parser.known.roles < 2 ^ 32 - 1)
room parser items h stands within =
    let f = few (map item_at items) parser.known parser.stack (goes_on items parser.known parser.stack (sym stands ∙ going_by parser.stopped parser.known parser.stack h)) in
    let e : length (map item_at items) ≡ length items = length-map items item_at in
    (omega arith, omega arith)
