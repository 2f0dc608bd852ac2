-- What tokens spell is kept: the classes that become known have IRIs for names.
use Rattle.std.proofs.Common.{◌≡◌, ℕ, ◌+◌, true, IsTrue, List, [], ◌∷◌, ◌++◌, length, map, refl, subst, ◌∙◌, arith}
use Rattle.std.specs.Prelude.{Option, Some, None, is_some, All}
use Rattle.std.specs.List.{AllByRecursion, list_any, list_all}
use Rattle.std.specs.Option.{option_map}
use Rattle.std.specs.Str.{bytes_eq}
use Rattle.std.proofs.lemmas.Bool.{and_parts, and_from, cond_both}
use Rattle.std.proofs.lemmas.Bool.Decides.{nat_tests}
use Rattle.std.proofs.lemmas.List.Elements.{All-from_recursion, recursion_from_All, All-nil, All-cons, All-head, All-tail, All-same, All-push}
use Rattle.std.proofs.lemmas.List.Folds.{list_all-append}
use Rattle.cd_base.specs.Iri.{is_iri_byte, IsIri}
use Rattle.cd_meaning.specs.Iri.{reserved_classes}
use Rattle.cd_names.specs.Names.{add_name}
use Rattle.cd_names.specs.Prefixes.{Declared, meaning, standard, declare}
use Rattle.cd_lex.specs.declared.token.Kind.{Kind}
use Rattle.cd_lex.specs.declared.token.Token.{Token}
use Rattle.cd_lex.specs.Lexing.{IsLexing}
use Rattle.cd_lex.specs.Machine.{State}
use Rattle.cd_lex.specs.Tokens.{is_name_byte, Piece, Blank, Comment, Lexeme, spelled, IsKind, IsCut, placed, Ending, AtEnd, AtBad, HasItems}
use Rattle.cd_syntax.specs.declared.item.Item.{Item}
use Rattle.cd_syntax.specs.declared.item.Item.TheVariants.{Short, FullIri}
use Rattle.cd_syntax.specs.declared.known.Known.{Known}
use Rattle.cd_grammar.specs.declared.symbol.Symbol.{Symbol}
use Rattle.cd_syntax.specs.Grammar.{begun, nesting}
use Rattle.cd_syntax.specs.Items.{item_of, item_at, placed_items}
use Rattle.cd_syntax.specs.Named.{iri_of}
use Rattle.cd_grammar.specs.Machine.{after, start}
use Rattle.cd_grammar.proofs.Kept.{kept}
use Rattle.cd_grammar.proofs.Lexed.{lexed_cut}
use Rattle.cd_grammar.proofs.Moves.{Moves}

-- ---- IRIs

name_in_iri : (b : ℕ) → is_name_byte b ≡ true → is_iri_byte b ≡ true
name_in_iri b h = grind (arith, nat_tests)

names_in_iri : (bytes : List ℕ) → list_all is_name_byte bytes ≡ true → list_all is_iri_byte bytes ≡ true
names_in_iri [] h = refl
names_in_iri (b ∷ more) h =
    let both = and_parts (is_name_byte b) (list_all is_name_byte more) h in
    and_from (is_iri_byte b) (list_all is_iri_byte more) (name_in_iri b both.0) (names_in_iri more both.1)

-- an IRI with name bytes behind it is one
longer_iri : (base l : List ℕ) → IsIri base → IsTrue (list_all is_name_byte l) → IsIri (base ++ l)
longer_iri [] l iri names = absurd (iri.0 refl)
longer_iri (b ∷ base) l iri names = (
  λ empty. cc,
  list_all-append is_iri_byte (b ∷ base) l ∙ and_from (list_all is_iri_byte (b ∷ base)) (list_all is_iri_byte l) iri.1 (names_in_iri l names),
)

-- ---- what items stand for

-- an item spells what its token may
abbrev IsSpelled : Item → Type 0
IsSpelled (Short p l) = IsTrue (list_all is_name_byte l)
IsSpelled (FullIri i) = IsIri i
IsSpelled item = Unit {0}

item_spelled : (kind : Kind) → IsKind kind → IsSpelled (item_of kind)
item_spelled (Kind.Short p l) is = is.1
item_spelled (Kind.FullIri i) is = is
item_spelled kind is = tt

items_spelled : (tokens : List Token) → AllByRecursion (λ (token : Token). IsKind token.kind) tokens → AllByRecursion IsSpelled (map item_at (placed_items tokens))
items_spelled [] is = tt
items_spelled (token ∷ tokens) is = (item_spelled token.kind is.0, items_spelled tokens is.1)

-- a prefix stands for an IRI
abbrev IsDeclaredIri : List ℕ × List ℕ → Type 0
IsDeclaredIri d = IsIri d.1

abbrev IsIriIfAny : Option (List ℕ) → Type 0
IsIriIfAny None = Unit {0}
IsIriIfAny (Some i) = IsIri i

meaning_iri : (ds : Declared) (p : List ℕ) → All IsDeclaredIri ds → IsIriIfAny (meaning ds p)
meaning_iri [] p are = tt
meaning_iri (d ∷ ds) p are =
    cond_both (bytes_eq d.0 p) (Some d.1) (meaning ds p) IsIriIfAny (λ same. All-head IsDeclaredIri d ds are) (λ other. meaning_iri ds p (All-tail IsDeclaredIri d ds are))

short_iri : (o : Option (List ℕ)) (l : List ℕ) → IsIriIfAny o → IsTrue (list_all is_name_byte l) → IsIriIfAny (option_map (λ base. base ++ l) o)
short_iri None l iri names = tt
short_iri (Some base) l iri names = longer_iri base l iri names

item_iri : (known : Known) (item : Item) → All IsDeclaredIri known.prefixes → IsSpelled item → IsIriIfAny (iri_of known item)
item_iri known (Short p l) are spelled = short_iri (meaning known.prefixes p) l (meaning_iri known.prefixes p are) spelled
item_iri known (FullIri i) are spelled = spelled
item_iri known item are spelled = tt

-- ---- what is known

record HasIris (known : Known) : Type 0 where
  classes : All IsIri known.classes
  prefixes : All IsDeclaredIri known.prefixes

class_added : (known : Known) (item : Item) (i : List ℕ) → HasIris known → IsSpelled item → iri_of known item ≡ Some i → All IsIri (add_name known.classes i)
class_added known item i h spelled is =
    cond_both (list_any (bytes_eq i) known.classes) known.classes (known.classes ++ i ∷ []) (All IsIri) (λ there. h.classes)
    (λ new. All-push IsIri known.classes i h.classes (subst IsIriIfAny is (item_iri known item h.prefixes spelled)))

prefix_added : (ds : Declared) (p i : List ℕ) → All IsDeclaredIri ds → IsIri i → All IsDeclaredIri (declare ds p i)
prefix_added ds p i are iri =
    cond_both (is_some (meaning ds p)) ds (ds ++ (p, i) ∷ []) (All IsDeclaredIri) (λ there. are) (λ new. All-push IsDeclaredIri ds (p, i) are iri)

iris_kept : (n : ℕ) (known known' : Known) (item : Item) (stack stack' : List Symbol) → IsSpelled item → HasIris known
    → Moves nesting known item stack known' stack' → HasIris known'
iris_kept n known known' item stack stack' spelled h (Moves.passes parts may) = h
iris_kept n known known' item stack stack' spelled h (Moves.binds p i is) = record {
  classes = h.classes;
  prefixes = prefix_added known.prefixes p i h.prefixes (subst IsSpelled is spelled);
}
iris_kept n known known' item stack stack' spelled h (Moves.names i is) = record { classes = class_added known item i h spelled is; prefixes = h.prefixes }
iris_kept n known known' item stack stack' spelled h (Moves.heads_class frame i behind is kind) = record { classes = class_added known item i h spelled is; prefixes = h.prefixes }
iris_kept n known known' item stack stack' spelled h (Moves.heads_role frame i behind is kind) = record { classes = h.classes; prefixes = h.prefixes }
iris_kept n known known' item stack stack' spelled h (Moves.parts_class frame i behind is) = record { classes = class_added known item i h spelled is; prefixes = h.prefixes }
iris_kept n known known' item stack stack' spelled h (Moves.deepens frame form depth behind) = h
iris_kept n known known' item stack stack' spelled h (Moves.ends_axiom frame a behind makes) = record { classes = h.classes; prefixes = h.prefixes }
iris_kept n known known' item stack stack' spelled h (Moves.ends_expression frame below e behind makes) = h

not_empty : (b : ℕ) (bs : List ℕ) → b ∷ bs ≡ [] → ⊥
not_empty b bs e = cc

begun_iris : HasIris begun
begun_iris = record {
  classes = All-from_recursion IsIri reserved_classes ((not_empty _ _, refl), ((not_empty _ _, refl), tt));
  prefixes = All-from_recursion IsDeclaredIri standard ((not_empty _ _, refl), ((not_empty _ _, refl), ((not_empty _ _, refl), ((not_empty _ _, refl), tt))));
}

-- a class has an IRI for its name, where the tokens spell what they may
pub iris : (tokens : List Token) (known : Known) (stack : List Symbol) → All (λ (token : Token). IsKind token.kind) tokens
    → after nesting start (map item_at (placed_items tokens)) ≡ Some (known, stack) → All IsIri known.classes
iris tokens known stack kinds leads =
    let spelled = items_spelled tokens (recursion_from_All (λ (token : Token). IsKind token.kind) tokens kinds) in
    (kept (λ (n : ℕ) (known : Known) (stack : List Symbol). HasIris known) IsSpelled iris_kept begun_iris (map item_at (placed_items tokens)) known stack spelled leads).classes

-- ---- what tokens spell

kinds_placed : (bytes : List ℕ) (pieces : List Piece) (rest : List ℕ) (at : ℕ) → IsCut bytes pieces rest → AllByRecursion (λ (token : Token). IsKind token.kind) (placed at pieces)
kinds_placed bytes [] rest at cut = tt
kinds_placed bytes (Blank b ∷ more) rest at (behind, begins, cut) = kinds_placed behind more rest (at + 1) cut
kinds_placed bytes (Comment c ∷ more) rest at (behind, begins, cut) = kinds_placed behind more rest (at + length (spelled (Comment c))) cut
kinds_placed bytes (Lexeme kind token ∷ more) rest at (behind, begins, cut) = (begins.is_piece.0, kinds_placed behind more rest (at + length token) cut)

kinds_cut : (bytes : List ℕ) (pieces : List Piece) (rest : List ℕ) → IsCut bytes pieces rest → All (λ (token : Token). IsKind token.kind) (placed 0 pieces)
kinds_cut bytes pieces rest cut = All-from_recursion (λ (token : Token). IsKind token.kind) (placed 0 pieces) (kinds_placed bytes pieces rest 0 cut)

-- of all tokens of a text, and of those that a lexer gave
pub kinds_of_cut : (bytes : List ℕ) (tokens : List Token) (ending : Ending) → HasItems bytes tokens ending → All (λ (token : Token). IsKind token.kind) tokens
kinds_of_cut bytes tokens (AtEnd n) (pieces, cut, are, place) = All-same (λ (token : Token). IsKind token.kind) tokens (placed 0 pieces) are (kinds_cut bytes pieces [] cut)
kinds_of_cut bytes tokens (AtBad n) (pieces, rest, cut, bad, are, place) =
    All-same (λ (token : Token). IsKind token.kind) tokens (placed 0 pieces) are (kinds_cut bytes pieces rest cut)

front_all : {X : Type 0} (P : X → Type 0) (xs ys : List X) → All P (xs ++ ys) → All P xs
front_all P [] ys are = All-nil P
front_all P (x ∷ xs) ys are = All-cons P x xs (All-head P x (xs ++ ys) are) (front_all P xs ys (All-tail P x (xs ++ ys) are))

pub kinds_of_taken : (s : State) (fed : List ℕ) (taken : List Token) → IsLexing s fed taken → All (λ (token : Token). IsKind token.kind) taken
kinds_of_taken s fed taken lexing =
    let IsKindOf : Token → Type 0 = λ (token : Token). IsKind token.kind in
    let kinds = kinds_cut fed lexing.pieces lexing.rest (lexed_cut s fed taken lexing) in
    front_all IsKindOf taken s.tokens (All-same IsKindOf (taken ++ s.tokens) (placed 0 lexing.pieces) lexing.ended kinds)
