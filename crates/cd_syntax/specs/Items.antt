-- The items of a text as the parser sees them: its tokens, and what ends them.
use Rattle.std.specs.Prelude.{ℕ, List, [], ◌∷◌, ◌++◌, map}
use Rattle.cd_lex.specs.declared.token.Kind.{Kind}
use Rattle.cd_lex.specs.declared.token.Token.{Token}
use Rattle.cd_lex.specs.Tokens.{Ending, AtEnd, AtBad}
use Rattle.cd_syntax.specs.declared.item.Item.{Item}
use Rattle.cd_syntax.specs.Words.{key_of}

abbrev pub item_of : Kind → Item
item_of Kind.Opening = Item.Opening
item_of Kind.Closing = Item.Closing
item_of Kind.Equals = Item.Equals
item_of Kind.Carets = Item.Carets
item_of (Kind.Word w) = Item.Word (key_of w)
item_of (Kind.Short p l) = Item.Short p l
item_of (Kind.Node l) = Item.Node l
item_of (Kind.FullIri i) = Item.FullIri i
item_of Kind.Quoted = Item.Quoted
item_of Kind.Lang = Item.Lang

-- an item, and how many bytes of the text stand before it
abbrev pub PlacedItem : Type 0
PlacedItem = Item × ℕ

abbrev pub item_at : PlacedItem → Item
item_at placed = placed.0

abbrev pub placed_items : List Token → List PlacedItem
placed_items tokens = map (λ (token : Token). (item_of token.kind, token.place)) tokens

-- what ends the items of a text
abbrev pub last_item : Ending → PlacedItem
last_item (AtEnd n) = (Item.End, n)
last_item (AtBad n) = (Item.Bad, n)

-- all items of a text
abbrev pub all_of : List Token → Ending → List PlacedItem
all_of tokens ending = placed_items tokens ++ last_item ending ∷ []
