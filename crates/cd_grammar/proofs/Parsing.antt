-- What the calls of a parser tell of the item that it took.
use Rattle.std.proofs.Common.{◌≡◌, Bool, false, List, ◌∷◌, sym, ap, subst, ◌∙◌}
use Rattle.std.specs.Prelude.{Option, Some, None}
use Rattle.std.proofs.lemmas.Bool.{false≢true}
use Rattle.cd_syntax.specs.declared.cause.Cause.{Cause}
use Rattle.cd_syntax.specs.declared.item.Item.{Item}
use Rattle.cd_syntax.specs.declared.known.Known.{Known}
use Rattle.cd_grammar.specs.declared.parser.Parser.{Parser}
use Rattle.cd_grammar.specs.declared.symbol.Symbol.{Symbol}
use Rattle.cd_grammar.specs.Causes.{cause_of, first_of_causes, refused, is_unknown, is_prefix_iri, is_over, wants_role}
use Rattle.cd_syntax.specs.Grammar.{nesting}
use Rattle.cd_grammar.specs.Machine.{State, step, advance, IsTaken}
use Rattle.cd_grammar.specs.Reading.{IsTried}

-- the cause that a symbol finds for an item
abbrev pub cause_at : Known → Symbol → Item → Cause
cause_at known symbol item = first_of_causes (refused known item (wants_role symbol)) (is_unknown known item) (is_prefix_iri symbol item) (is_over symbol item)

module _ (before after : Parser) (item : Item) (cause : Cause) (symbol : Symbol) (rest stack : List Symbol) (ok : Bool) where
  refused_at : (state : Option State) → ok ≡ false → before.stack ≡ symbol ∷ rest → IsTaken state before.known after.known stack ok
      → after.stopped ≡ before.stopped → cause ≡ cause_at after.known symbol item → IsTried state before after item (Some cause)
  refused_at None not_ok top taken same found = (
    ap Some (found ∙ ap (λ (known : Known). cause_at known symbol item) taken.1 ∙ ap (λ (wanted : List Symbol). cause_of before.known wanted item) (sym top)),
    same,
  )
  refused_at (Some state) not_ok top taken same found = absurd (false≢true (sym not_ok ∙ taken.0))

  -- an item that its place did not take
  pub untaken : ok ≡ false → before.stack ≡ symbol ∷ rest → IsTaken (advance nesting before.known symbol item rest) before.known after.known stack ok
      → after.stopped ≡ before.stopped → cause ≡ cause_at after.known symbol item → IsTried (step nesting (Some (before.known, before.stack)) item) before after item (Some cause)
  untaken not_ok top taken same found =
      subst (λ (wanted : List Symbol). IsTried (step nesting (Some (before.known, wanted)) item) before after item (Some cause)) (sym top)
      (refused_at (advance nesting before.known symbol item rest) not_ok top taken same found)
