-- What every move of the machine keeps holds behind all items that are taken.
use Rattle.std.proofs.Common.{◌≡◌, ℕ, ◌+◌, List, [], ◌∷◌, length, subst, arith}
use Rattle.std.specs.Prelude.{Option, Some, None}
use Rattle.std.specs.List.{AllByRecursion}
use Rattle.cd_syntax.specs.declared.item.Item.{Item}
use Rattle.cd_syntax.specs.declared.known.Known.{Known}
use Rattle.cd_grammar.specs.declared.symbol.Symbol.{Symbol}
use Rattle.cd_grammar.specs.declared.symbol.Symbol.TheVariants.{Document}
use Rattle.cd_syntax.specs.Grammar.{begun, nesting}
use Rattle.cd_grammar.specs.Machine.{State, advance, step, after, start}
use Rattle.cd_grammar.proofs.Moves.{Moves, Goes, advance_goes}

-- it holds of the state behind n items, if there is one
abbrev At : (ℕ → Known → List Symbol → Type 0) → ℕ → Option State → Type 0
At P n None = Unit {0}
At P n (Some state) = P n state.0 state.1

module _ (P : ℕ → Known → List Symbol → Type 0) (Fits : Item → Type 0)
    (keeps : (n : ℕ) (known known' : Known) (item : Item) (stack stack' : List Symbol) → Fits item → P n known stack
    → Moves nesting known item stack known' stack' → P (n + 1) known' stack') where
  goes_keeps : (n : ℕ) (known : Known) (item : Item) (stack : List Symbol) (o : Option State) → Fits item → P n known stack
      → Goes nesting known item stack o → At P (n + 1) o
  goes_keeps n known item stack None fits holds goes = tt
  goes_keeps n known item stack (Some state) fits holds goes = keeps n known state.0 item stack state.1 fits holds goes

  step_keeps : (n : ℕ) (state : Option State) (item : Item) → Fits item → At P n state → At P (n + 1) (step nesting state item)
  step_keeps n None item fits holds = tt
  step_keeps n (Some (known, [])) item fits holds = tt
  step_keeps n (Some (known, symbol ∷ stack)) item fits holds =
      goes_keeps n known item (symbol ∷ stack) (advance nesting known symbol item stack) fits holds (advance_goes nesting known symbol item stack)

  run_keeps : (n : ℕ) (state : Option State) (items : List Item) → AllByRecursion Fits items → At P n state → At P (n + length items) (after nesting state items)
  run_keeps n state [] fit holds = let same : n ≡ n + length {A = Item} [] = omega arith in subst (λ (k : ℕ). At P k state) same holds
  run_keeps n state (item ∷ items) fit holds =
      let same : (n + 1) + length items ≡ n + length (item ∷ items) = omega arith in
      subst (λ (k : ℕ). At P k (after nesting (step nesting state item) items)) same (run_keeps (n + 1) (step nesting state item) items fit.1 (step_keeps n state item fit.0 holds))

  -- what holds at the start and is kept holds behind the items
  pub kept : P 0 begun (Document ∷ []) → (items : List Item) (known : Known) (stack : List Symbol) → AllByRecursion Fits items
      → after nesting start items ≡ Some (known, stack) → P (length items) known stack
  kept holds items known stack fit leads =
      let same : 0 + length items ≡ length items = omega arith in
      subst (λ (k : ℕ). P k known stack) same (subst (At P (0 + length items)) leads (run_keeps 0 start items fit holds))

-- nothing is asked of the items
pub all_fit : (items : List Item) → AllByRecursion (λ (item : Item). Unit {0}) items
all_fit [] = tt
all_fit (item ∷ items) = (tt, all_fit items)
