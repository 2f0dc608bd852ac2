-- A parser that takes the tokens of a lexer.
use Rattle.std.proofs.Common.{◌≡◌, ◌<◌, ◌^◌, ℕ, Bool, true, List, [], ◌∷◌, ◌++◌, length, sym, ap, subst, ◌∙◌, arith}
use Rattle.std.proofs.lemmas.List.{length-map, map-append}
use Rattle.std.proofs.lemmas.List.Sums.{fold-append}
use Rattle.std.specs.Prelude.{Option, Some, None}
use Rattle.std.specs.List.{fold}
use Rattle.cd_lex.specs.declared.token.Token.{Token}
use Rattle.cd_lex.specs.declared.token.LexFault.{LexFault}
use Rattle.cd_lex.specs.declared.token.LexFault.TheVariants.{BadByte, Memory}
use Rattle.cd_lex.specs.Lexing.{IsLexing, AreAll}
use Rattle.cd_lex.specs.Tokens.{HasItems, Ending, AtEnd, AtBad}
use Rattle.cd_lex.specs.Machine.{State}
use Rattle.cd_grammar.specs.declared.parser.Parser.{Parser}
use Rattle.cd_grammar.specs.Causes.{stand_after, Standing}
use Rattle.cd_syntax.specs.Items.{PlacedItem, placed_items, item_of, last_item}
use Rattle.cd_grammar.specs.Reading.{standing, started}
use Rattle.cd_grammar.specs.Taking.{Takes, TakesAll, TakesText, IsLast}
use Rattle.cd_grammar.proofs.Few.{few_taken}

-- after one more item
stands_more : (parser after : Parser) (items : List PlacedItem) (placed : PlacedItem) → standing parser ≡ fold stand_after started items
    → standing after ≡ stand_after (standing parser) placed → standing after ≡ fold stand_after started (items ++ placed ∷ [])
stands_more parser after items placed h step =
    step ∙ ap (λ (s : Standing). stand_after s placed) h ∙ sym (fold-append stand_after started items (placed ∷ []))

-- after one more token
pub takes_more : (lexer : State) (parser after : Parser) (fed : List ℕ) (taken : List Token) (token : Token) → IsLexing lexer fed (taken ++ token ∷ [])
    → standing parser ≡ fold stand_after started (placed_items taken)
    → standing after ≡ stand_after (standing parser) (item_of token.kind, token.place) → Takes lexer after fed (taken ++ token ∷ [])
takes_more lexer parser after fed taken token lexing h step = record {
  lexing = lexing;
  stands =
      stands_more parser after (placed_items taken) (item_of token.kind, token.place) h step
      ∙ ap (fold stand_after started) (sym (map-append (λ (t : Token). (item_of t.kind, t.place)) taken (token ∷ [])));
}

-- a parser that took the tokens of a short text took few items
pub took_few : (lexer : State) (parser : Parser) (fed : List ℕ) (taken : List Token) → Takes lexer parser fed taken → length fed < 2 ^ 31
    → (items : List PlacedItem) × (standing parser ≡ fold stand_after started items) × (length items < 2 ^ 31)
took_few lexer parser fed taken h within =
    let few = few_taken lexer fed taken h.lexing in
    let e : length (placed_items taken) ≡ length taken = length-map taken (λ (t : Token). (item_of t.kind, t.place)) in
    (placed_items taken, h.stands, omega arith)

-- what ended the items, where the lexer was closed and gave all tokens
ended_by : (fault : Option LexFault) (fed : List ℕ) (taken : List Token) (placed : PlacedItem) → AreAll true fault fed taken → IsLast fault (length fed) placed
    → (ending : Ending) × HasItems fed taken ending × (placed ≡ last_item ending)
ended_by None fed taken placed all last = (AtEnd (length fed), all, last)
ended_by (Some (BadByte place)) fed taken placed all last = (AtBad place, all, last)
ended_by (Some Memory) fed taken placed all last = absurd last

-- after the last item
pub takes_text : (lexer : State) (parser after : Parser) (fed : List ℕ) (fault : Option LexFault) (placed : PlacedItem) → TakesAll lexer parser fed
    → lexer.closed ≡ true → lexer.fault ≡ fault → IsLast fault (length fed) placed → standing after ≡ stand_after (standing parser) placed → TakesText after fed
takes_text lexer parser after fed fault placed all closed same last step =
    let all_taken = subst (λ (b : Bool). AreAll b lexer.fault fed all.0) closed all.2 in
    let end = ended_by lexer.fault fed all.0 placed all_taken (subst (λ (f : Option LexFault). IsLast f (length fed) placed) (sym same) last) in (
      all.0,
      end.0,
      end.1,
      stands_more parser after (placed_items all.0) placed all.1.stands step ∙ ap (λ (p : PlacedItem). fold stand_after started (placed_items all.0 ++ p ∷ [])) end.2,
    )
