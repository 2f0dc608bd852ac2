-- What the machine does at the last item of a text.
use Rattle.std.proofs.Common.{◌≡◌, ℕ, List, [], ◌∷◌, refl, ap}
use Rattle.std.specs.Prelude.{Option, Some, None}
use Rattle.std.proofs.lemmas.Option.{some_pair_parts}
use Rattle.cd_syntax.specs.declared.item.Item.{Item}
use Rattle.cd_syntax.specs.declared.known.Known.{Known}
use Rattle.cd_grammar.specs.declared.symbol.Symbol.{Symbol}
use Rattle.cd_grammar.specs.declared.symbol.Symbol.TheVariants.{Opening, End}
use Rattle.cd_syntax.specs.Grammar.{nesting}
use Rattle.cd_grammar.specs.Machine.{State, step, advance}

-- ---- a bad byte

never_bad : (most : ℕ) (known : Known) (symbol : Symbol) (stack : List Symbol) → advance most known symbol Item.Bad stack ≡ None
never_bad most known Opening stack = refl
never_bad most known symbol stack = refl

-- a bad byte can't be taken
pub bad_stops : (state : Option State) → step nesting state Item.Bad ≡ None
bad_stops None = refl
bad_stops (Some (known, [])) = refl
bad_stops (Some (known, symbol ∷ stack)) = never_bad nesting known symbol stack

-- ---- the end

end_at : (most : ℕ) (known : Known) (symbol : Symbol) (stack : List Symbol) (known' : Known) (stack' : List Symbol)
    → advance most known symbol Item.End stack ≡ Some (known', stack') → known ≡ known'
end_at most known End stack known' stack' h = (some_pair_parts known known' stack stack' h).0
end_at most known symbol stack known' stack' h = cc

-- the end makes nothing known
pub end_keeps : (state : Option State) (known : Known) (stack : List Symbol) → step nesting state Item.End ≡ Some (known, stack)
    → (wanted : List Symbol) × (state ≡ Some (known, wanted))
end_keeps None known stack h = absurd cc
end_keeps (Some (known', [])) known stack h = absurd cc
end_keeps (Some (known', symbol ∷ wanted)) known stack h =
    (symbol ∷ wanted, ap (λ (k : Known). Some (k, symbol ∷ wanted)) (end_at nesting known' symbol wanted known stack h))
