-- The items of a text by its cut into pieces.
use Rattle.std.proofs.Common.{◌≡◌, ◌⊎◌, ℕ, ◌+◌, List, [], ◌∷◌, ◌++◌, map, length, refl, sym, ap, subst, ◌∙◌, inl, inr, arith}
use Rattle.std.proofs.lemmas.List.{map-append}
use Rattle.cd_lex.specs.declared.token.Kind.{Kind}
use Rattle.cd_lex.specs.declared.token.Token.{Token}
use Rattle.cd_lex.specs.Tokens.{Piece, Blank, Comment, Lexeme, spelled, BeginsWith, IsCut, kinds, placed, length_of, HasItems, Ending, AtEnd, AtBad}
use Rattle.cd_lex.proofs.CutLaws.{begins_unique, end_is_stuck, cut_length}
use Rattle.cd_syntax.specs.declared.item.Item.{Item}
use Rattle.cd_syntax.specs.Fault.{Next, End, Bad, IsNext}
use Rattle.cd_syntax.specs.Items.{PlacedItem, item_of, item_at, placed_items, last_item, all_of}
use Rattle.cd_syntax.proofs.FaultsOfTokens.{next_item}

-- ---- kinds and items

pub kinds-append : (p q : List Piece) → kinds (p ++ q) ≡ kinds p ++ kinds q
kinds-append [] q = refl
kinds-append (Blank b ∷ p) q = kinds-append p q
kinds-append (Comment c ∷ p) q = kinds-append p q
kinds-append (Lexeme kind bytes ∷ p) q = ap (λ (ks : List Kind). kind ∷ ks) (kinds-append p q)

-- the items of the tokens among pieces
items_of : (at : ℕ) (pieces : List Piece) → map item_at (placed_items (placed at pieces)) ≡ map item_of (kinds pieces)
items_of at [] = refl
items_of at (Blank b ∷ pieces) = items_of (at + 1) pieces
items_of at (Comment c ∷ pieces) = items_of (at + length (spelled (Comment c))) pieces
items_of at (Lexeme kind bytes ∷ pieces) = ap (λ (items : List Item). item_of kind ∷ items) (items_of (at + length bytes) pieces)

-- all items of a text, by its pieces
pub all_items : (pieces : List Piece) (taken : List Token) (ending : Ending) → taken ≡ placed 0 pieces
    → map item_at (all_of taken ending) ≡ map item_of (kinds pieces) ++ (last_item ending).0 ∷ []
all_items pieces taken ending are =
    map-append item_at (placed_items taken) (last_item ending ∷ [])
    ∙ ap (λ (items : List Item). items ++ (last_item ending).0 ∷ []) (ap (λ (tokens : List Token). map item_at (placed_items tokens)) are ∙ items_of 0 pieces)

-- ---- an item of a text

-- the pieces before an item, where the first of them stands at a place
pub record Found (bytes : List ℕ) (at : ℕ) (front : List PlacedItem) (item : PlacedItem) : Type 0 where
  pub pieces : List Piece
  pub rest : List ℕ
  pub next : Next
  pub cut : IsCut bytes pieces rest
  pub next_is : IsNext rest next
  pub same : map item_at front ≡ map item_of (kinds pieces)
  pub item_is : item.0 ≡ next_item next
  pub place : item.1 ≡ at + length_of pieces

-- what ends the items
at_end : (bytes rest : List ℕ) (at : ℕ) (next : Next) (place : ℕ) (front : List PlacedItem) (item : PlacedItem) (later : List PlacedItem) → bytes ≡ rest → IsNext rest next
    → place ≡ at + 0 → (next_item next, place) ∷ [] ≡ front ++ item ∷ later → Found bytes at front item
at_end bytes rest at next place [] item later cut is here e =
    let first : (next_item next, place) ≡ item = cc in
    record {
      pieces = [];
      rest = rest;
      next = next;
      cut = cut;
      next_is = is;
      same = refl;
      item_is = ap item_at (sym first);
      place = ap (λ (p : PlacedItem). p.1) (sym first) ∙ here;
    }
at_end bytes rest at next place (f ∷ []) item later cut is here e = absurd cc
at_end bytes rest at next place (f ∷ g ∷ front) item later cut is here e = absurd cc

-- an item behind one more piece
behind_piece : (bytes behind : List ℕ) (piece : Piece) (at at' : ℕ) (front front' : List PlacedItem) (item : PlacedItem) → BeginsWith bytes piece behind
    → at' ≡ at + length (spelled piece) → ((pieces : List Piece) → map item_at front' ≡ map item_of (kinds pieces) → map item_at front ≡ map item_of (kinds (piece ∷ pieces)))
    → Found behind at' front' item → Found bytes at front item
behind_piece bytes behind piece at at' front front' item first moved more f = record {
  pieces = piece ∷ f.pieces;
  rest = f.rest;
  next = f.next;
  cut = (behind, first, f.cut);
  next_is = f.next_is;
  same = more f.pieces f.same;
  item_is = f.item_is;
  place = f.place ∙ omega arith;
}

-- an item among those of pieces, and what ends them
found : (pieces : List Piece) (bytes rest : List ℕ) (at : ℕ) (next : Next) (place : ℕ) (front : List PlacedItem) (item : PlacedItem) (later : List PlacedItem)
    → IsCut bytes pieces rest → IsNext rest next → place ≡ at + length_of pieces
    → placed_items (placed at pieces) ++ (next_item next, place) ∷ [] ≡ front ++ item ∷ later → Found bytes at front item
found [] bytes rest at next place front item later cut is here e = at_end bytes rest at next place front item later cut is here e
found (Blank b ∷ pieces) bytes rest at next place front item later (behind, first, cut) is here e =
    behind_piece bytes behind (Blank b) at (at + 1) front front item first (omega arith) (λ ps h. h)
    (found pieces behind rest (at + 1) next place front item later cut is (omega arith) e)
found (Comment c ∷ pieces) bytes rest at next place front item later (behind, first, cut) is here e =
    behind_piece bytes behind (Comment c) at (at + length (spelled (Comment c))) front front item first refl (λ ps h. h)
    (found pieces behind rest (at + length (spelled (Comment c))) next place front item later cut is (omega arith) e)
found (Lexeme kind token ∷ pieces) bytes rest at next place [] item later (behind, first, cut) is here e =
    let here_is : (item_of kind, at) ≡ item = cc in
    record {
      pieces = [];
      rest = bytes;
      next = Next.Token kind;
      cut = refl;
      next_is = (token, behind, first);
      same = refl;
      item_is = ap item_at (sym here_is);
      place = ap (λ (p : PlacedItem). p.1) (sym here_is) ∙ omega arith;
    }
found (Lexeme kind token ∷ pieces) bytes rest at next place (f ∷ front) item later (behind, first, cut) is here e =
    let n : ℕ = at + length token in
    let first_is : (item_of kind, at) ≡ f = cc in
    let others : placed_items (placed n pieces) ++ (next_item next, place) ∷ [] ≡ front ++ item ∷ later = cc in
    behind_piece bytes behind (Lexeme kind token) at n (f ∷ front) front item first refl
    (λ ps h. ap (λ (x : Item). x ∷ map item_at front) (ap item_at (sym first_is)) ∙ ap (λ (xs : List Item). item_of kind ∷ xs) h)
    (found pieces behind rest n next place front item later cut is (omega arith) others)

-- an item of a text
pub found_in : (bytes : List ℕ) (taken : List Token) (ending : Ending) (front : List PlacedItem) (item : PlacedItem) (later : List PlacedItem) → HasItems bytes taken ending
    → all_of taken ending ≡ front ++ item ∷ later → Found bytes 0 front item
found_in bytes taken (AtEnd n) front item later (pieces, cut, are, place) e =
    found pieces bytes [] 0 End n front item later cut refl (omega (arith, cut_length bytes [] pieces cut))
    (ap (λ (tokens : List Token). placed_items tokens ++ (Item.End, n) ∷ []) (sym are) ∙ e)
found_in bytes taken (AtBad n) front item later (pieces, rest, cut, bad, are, place) e =
    found pieces bytes rest 0 Bad n front item later cut bad (omega arith)
    (ap (λ (tokens : List Token). placed_items tokens ++ (Item.Bad, n) ∷ []) (sym are) ∙ e)

-- ---- what stands next

same_kind : (a b : Kind) (x y : List ℕ) → Lexeme a x ≡ Lexeme b y → a ≡ b
same_kind a b x y e = cc

-- behind pieces stands one token, or the end, or a bad byte
pub next_unique : (bytes : List ℕ) (a b : Next) → IsNext bytes a → IsNext bytes b → a ≡ b
next_unique bytes (Next.Token a) (Next.Token b) (x, r, first) (y, s, second) =
    ap Next.Token (same_kind a b x y (begins_unique bytes (Lexeme a x) (Lexeme b y) r s first second).0)
next_unique bytes (Next.Token a) End (x, r, first) is = absurd (end_is_stuck (Lexeme a x) r (subst (λ (xs : List ℕ). BeginsWith xs (Lexeme a x) r) is first))
next_unique bytes (Next.Token a) Bad (x, r, first) bad = absurd (bad.1 (Lexeme a x) r first)
next_unique bytes End (Next.Token b) is (y, s, second) = absurd (end_is_stuck (Lexeme b y) s (subst (λ (xs : List ℕ). BeginsWith xs (Lexeme b y) s) is second))
next_unique bytes End End is also = refl
next_unique bytes End Bad is bad = absurd (bad.0 is)
next_unique bytes Bad (Next.Token b) bad (y, s, second) = absurd (bad.1 (Lexeme b y) s second)
next_unique bytes Bad End bad is = absurd (bad.0 is)
next_unique bytes Bad Bad bad also = refl

-- of two cuts of a text one goes on as the other does
pub cuts_compare : (bytes r s : List ℕ) (p q : List Piece) → IsCut bytes p r → IsCut bytes q s
    → ((later : List Piece) × (q ≡ p ++ later) × IsCut r later s) ⊎ ((later : List Piece) × (p ≡ q ++ later) × IsCut s later r)
cuts_compare bytes r s [] q h k = inl (q, refl, subst (λ (xs : List ℕ). IsCut xs q s) h k)
cuts_compare bytes r s (a ∷ p) [] h k = inr (a ∷ p, refl, subst (λ (xs : List ℕ). IsCut xs (a ∷ p) r) k h)
cuts_compare bytes r s (a ∷ p) (b ∷ q) (behind, first, cut) (behind', first', cut') =
    let same = begins_unique bytes a b behind behind' first first' in
    let head = same.0 in
    elim (cuts_compare behind' r s p q (subst (λ (xs : List ℕ). IsCut xs p r) same.1 cut) cut') [
      | inl (later, is, onwards) ↦ inl (later, ap (λ (x : Piece). x ∷ q) (sym head) ∙ ap (λ (ps : List Piece). a ∷ ps) is, onwards)
      | inr (later, is, onwards) ↦ inr (later, ap (λ (x : Piece). x ∷ p) head ∙ ap (λ (ps : List Piece). b ∷ ps) is, onwards)
    ]
