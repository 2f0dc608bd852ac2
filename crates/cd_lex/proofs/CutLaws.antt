-- A text has one cut into pieces, and so one list of items.
use Rattle.std.proofs.Common.{◌≡◌, ◌≢◌, ◌⊎◌, ℕ, zero, suc, ◌+◌, ◌<◌, ◌≤◌, List, length, [], ◌∷◌, ◌++◌, refl, sym, ap, subst, ◌∙◌, inl, inr, arith, length-append, append_assoc}
use Rattle.std.specs.Prelude.{Option, Some, None}
use Rattle.cd_lex.specs.declared.token.Kind.TheVariants.{Opening, Closing, Equals, Carets, Word, Short, Node, FullIri, Quoted, Lang}
use Rattle.cd_lex.specs.declared.token.Token.{Token}
use Rattle.cd_lex.specs.Showing.{ShowsTokens, ShowsBad, ItemsAreUnique}
use Rattle.cd_lex.specs.Tokens.{Piece, escaped, spelled, IsPiece, IsLongest, BeginsWith, IsCut, IsBad, placed, length_of, Ending, AtEnd, AtBad, HasItems}
use Rattle.cd_lex.proofs.CutFirst.{first_piece, Finds, first_found, piece_found, piece_only}

-- ---- one piece

same_some : {A : Type 0} (x y : A) → Some x ≡ Some y → x ≡ y
same_some x y h = cc

-- the piece with which a text begins, and the rest
pub begins_unique : (bytes : List ℕ) (p q : Piece) (r s : List ℕ) → BeginsWith bytes p r → BeginsWith bytes q s → (p ≡ q) × (r ≡ s)
begins_unique bytes p q r s h k =
    let from : Piece × List ℕ = (p, r) in
    let to : Piece × List ℕ = (q, s) in
    let same : from ≡ to = same_some from to (sym (piece_only bytes p r h) ∙ piece_only bytes q s k) in
    (ap (λ (z : Piece × List ℕ). z.0) same, ap (λ (z : Piece × List ℕ). z.1) same)

some_first : (b : ℕ) (front back : List ℕ) → 0 < length ((b ∷ front) ++ back)
some_first b front back = omega (arith, length-append (b ∷ front) back)

some_as : (bytes front : List ℕ) → bytes ≡ front → 0 < length front → 0 < length bytes
some_as bytes front is some = subst (λ (xs : List ℕ). 0 < length xs) (sym is) some

-- no piece is empty
pub spelled_some : (p : Piece) → IsPiece p → 0 < length (spelled p)
spelled_some (Piece.Blank b) is = omega arith
spelled_some (Piece.Comment c) is = omega arith
spelled_some (Piece.Lexeme Opening bytes) is = some_as bytes (40 ∷ []) is.1 (omega arith)
spelled_some (Piece.Lexeme Closing bytes) is = some_as bytes (41 ∷ []) is.1 (omega arith)
spelled_some (Piece.Lexeme Equals bytes) is = some_as bytes (61 ∷ []) is.1 (omega arith)
spelled_some (Piece.Lexeme Carets bytes) is = some_as bytes (94 ∷ 94 ∷ []) is.1 (omega arith)
spelled_some (Piece.Lexeme (Word []) bytes) is = absurd (is.0.0 refl)
spelled_some (Piece.Lexeme (Word (b ∷ w)) bytes) is = some_as bytes (b ∷ w) is.1 (omega arith)
spelled_some (Piece.Lexeme (Short p l) bytes) (((w, spells, plain, word), name), is) =
    some_as bytes (p ++ l) is (omega (arith, length-append p l, ap length spells, length-append w (58 ∷ [])))
spelled_some (Piece.Lexeme (Node l) bytes) is = some_as bytes (95 ∷ 58 ∷ l) is.1 (omega arith)
spelled_some (Piece.Lexeme (FullIri i) bytes) is = some_as bytes (60 ∷ i ++ 62 ∷ []) is.1 (some_first 60 i (62 ∷ []))
spelled_some (Piece.Lexeme Quoted bytes) (valid, (s, is)) = some_as bytes (34 ∷ escaped s ++ 34 ∷ []) is (some_first 34 (escaped s) (34 ∷ []))
spelled_some (Piece.Lexeme Lang bytes) (valid, (t, is, letter, tag)) = some_as bytes (64 ∷ t) is (omega arith)

pub begins_length : (bytes : List ℕ) (p : Piece) (rest : List ℕ) → BeginsWith bytes p rest → length bytes ≡ length (spelled p) + length rest
begins_length bytes p rest h = ap length h.split ∙ length-append (spelled p) rest

pub begins_shorter : (bytes : List ℕ) (p : Piece) (rest : List ℕ) → BeginsWith bytes p rest → length rest < length bytes
begins_shorter bytes p rest h = omega (arith, begins_length bytes p rest h, spelled_some p h.is_piece)

-- a piece with a byte behind it stays the longest, whatever follows that byte
pub longest_more : (p : Piece) (c : ℕ) (rest more : List ℕ) → IsLongest p (c ∷ rest) → IsLongest p ((c ∷ rest) ++ more)
longest_more (Piece.Blank b) c rest more h = tt
longest_more (Piece.Comment text) c rest more (inl none) = cc
longest_more (Piece.Comment text) c rest more (inr ends) = inr ends
longest_more (Piece.Lexeme Opening bytes) c rest more h = tt
longest_more (Piece.Lexeme Closing bytes) c rest more h = tt
longest_more (Piece.Lexeme Equals bytes) c rest more h = tt
longest_more (Piece.Lexeme Carets bytes) c rest more h = tt
longest_more (Piece.Lexeme (Word w) bytes) c rest more h = h
longest_more (Piece.Lexeme (Short p l) bytes) c rest more h = h
longest_more (Piece.Lexeme (Node l) bytes) c rest more h = h
longest_more (Piece.Lexeme (FullIri i) bytes) c rest more h = tt
longest_more (Piece.Lexeme Quoted bytes) c rest more h = tt
longest_more (Piece.Lexeme Lang bytes) c rest more h = h

pub begins_more : (bytes : List ℕ) (p : Piece) (rest more : List ℕ) → BeginsWith bytes p rest → IsLongest p (rest ++ more) → BeginsWith (bytes ++ more) p (rest ++ more)
begins_more bytes p rest more h longest = record {
  split = ap (λ (xs : List ℕ). xs ++ more) h.split ∙ append_assoc (spelled p) rest more;
  is_piece = h.is_piece;
  is_longest = longest;
}

-- ---- where no piece begins

abbrev pub IsStuck : List ℕ → Type 0
IsStuck bytes = (piece : Piece) (rest : List ℕ) → BeginsWith bytes piece rest → ⊥

no_some : {A : Type 0} (x : A) → None ≡ Some x → ⊥
no_some x h = cc

pub stuck_if_none : (bytes : List ℕ) → first_piece bytes ≡ None → IsStuck bytes
stuck_if_none bytes none p rest h = no_some (p, rest) (sym none ∙ piece_only bytes p rest h)

pub none_if_stuck : (bytes : List ℕ) → IsStuck bytes → first_piece bytes ≡ None
none_if_stuck bytes stuck =
    let P : Option (Piece × List ℕ) → Type 0 = λ found. Finds bytes found → found ≡ None in
    (elim (first_piece bytes) as P [ None ↦ λ h. refl | Some found ↦ λ h. absurd (stuck found.0 found.1 h) ]) (first_found bytes)

pub end_is_stuck : IsStuck []
end_is_stuck = stuck_if_none [] refl

pub bad_if_none : (bytes : List ℕ) → bytes ≢ [] → first_piece bytes ≡ None → IsBad bytes
bad_if_none bytes some none = (some, stuck_if_none bytes none)

-- ---- cuts

-- a cut goes on as each longer cut does
pub cut_front : (bytes r s : List ℕ) (p q : List Piece) → IsCut bytes p r → IsCut bytes q s → IsStuck s
    → (later : List Piece) × (q ≡ p ++ later) × IsCut r later s
cut_front bytes r s [] q h k stuck = (q, refl, subst (λ (xs : List ℕ). IsCut xs q s) h k)
cut_front bytes r s (a ∷ p) [] (behind, first, cut) k stuck =
    absurd (stuck a behind (subst (λ (xs : List ℕ). BeginsWith xs a behind) k first))
cut_front bytes r s (a ∷ p) (b ∷ q) (behind_a, first_a, cut_a) (behind_b, first_b, cut_b) stuck =
    let same = begins_unique bytes a b behind_a behind_b first_a first_b in
    let (later, is, cut) = cut_front behind_b r s p q (subst (λ (xs : List ℕ). IsCut xs p r) same.1 cut_a) cut_b stuck in
    (later, ap (λ (ps : List Piece). b ∷ ps) is ∙ ap (λ (x : Piece). x ∷ (p ++ later)) (sym same.0), cut)

-- one cut ends where no piece begins
pub cut_unique : (bytes r s : List ℕ) (p q : List Piece) → IsCut bytes p r → IsCut bytes q s → IsStuck r → IsStuck s → (p ≡ q) × (r ≡ s)
cut_unique bytes r s [] [] h k stuck_r stuck_s = (refl, sym h ∙ k)
cut_unique bytes r s [] (b ∷ q) h (behind, first, cut) stuck_r stuck_s =
    absurd (stuck_r b behind (subst (λ (xs : List ℕ). BeginsWith xs b behind) h first))
cut_unique bytes r s (a ∷ p) [] (behind, first, cut) k stuck_r stuck_s =
    absurd (stuck_s a behind (subst (λ (xs : List ℕ). BeginsWith xs a behind) k first))
cut_unique bytes r s (a ∷ p) (b ∷ q) (behind_a, first_a, cut_a) (behind_b, first_b, cut_b) stuck_r stuck_s =
    let same = begins_unique bytes a b behind_a behind_b first_a first_b in
    let more = cut_unique behind_b r s p q (subst (λ (xs : List ℕ). IsCut xs p r) same.1 cut_a) cut_b stuck_r stuck_s in
    (ap (λ (x : Piece). x ∷ p) same.0 ∙ ap (λ (ps : List Piece). b ∷ ps) more.0, more.1)

pub cut_append : (bytes r s : List ℕ) (p q : List Piece) → IsCut bytes p r → IsCut r q s → IsCut bytes (p ++ q) s
cut_append bytes r s [] q h k = subst (λ (xs : List ℕ). IsCut xs q s) (sym h) k
cut_append bytes r s (a ∷ p) q (behind, first, cut) k = (behind, first, cut_append behind r s p q cut k)

pub cut_length : (bytes r : List ℕ) (p : List Piece) → IsCut bytes p r → length bytes ≡ length_of p + length r
cut_length bytes r [] h = omega (arith, ap length h)
cut_length bytes r (a ∷ p) (behind, first, cut) = omega (arith, begins_length bytes a behind first, cut_length behind r p cut)

pub length_of-append : (p q : List Piece) → length_of (p ++ q) ≡ length_of p + length_of q
length_of-append [] q = omega arith
length_of-append (a ∷ p) q = omega (arith, length_of-append p q)

at_same : (at n : ℕ) (pieces : List Piece) → at ≡ n → placed at pieces ≡ placed n pieces
at_same at n pieces h = ap (λ (x : ℕ). placed x pieces) h

pub placed-append : (at : ℕ) (p q : List Piece) → placed at (p ++ q) ≡ placed at p ++ placed (at + length_of p) q
placed-append at [] q = at_same at (at + 0) q (omega arith)
placed-append at (Piece.Blank b ∷ p) q =
    placed-append (at + 1) p q
    ∙ ap (λ (ts : List Token). placed (at + 1) p ++ ts) (at_same (at + 1 + length_of p) (at + length_of (Piece.Blank b ∷ p)) q (omega arith))
placed-append at (Piece.Comment c ∷ p) q =
    let n : ℕ = at + length (spelled (Piece.Comment c)) in
    placed-append n p q
    ∙ ap (λ (ts : List Token). placed n p ++ ts) (at_same (n + length_of p) (at + length_of (Piece.Comment c ∷ p)) q (omega arith))
placed-append at (Piece.Lexeme kind bytes ∷ p) q =
    let n : ℕ = at + length bytes in
    let here : Token = record { kind = kind; place = at } in
    ap (λ (ts : List Token). here ∷ ts)
    (placed-append n p q
    ∙ ap (λ (ts : List Token). placed n p ++ ts) (at_same (n + length_of p) (at + length_of (Piece.Lexeme kind bytes ∷ p)) q (omega arith)))

-- ---- every text has a cut

abbrev pub HasCut : List ℕ → Type 0
HasCut bytes = (pieces : List Piece) × (rest : List ℕ) × IsCut bytes pieces rest × IsStuck rest

-- by the length of the text, which is at most this number
cut_within : (n : ℕ) (bytes : List ℕ) → length bytes ≤ n → HasCut bytes
cut_within zero [] short = ([], [], refl, end_is_stuck)
cut_within zero (b ∷ more) short = absurd (omega arith)
cut_within (suc n) bytes short =
    let P : Option (Piece × List ℕ) → Type 0 = λ found. first_piece bytes ≡ found → HasCut bytes in
    (elim (first_piece bytes) as P [
      | None ↦ λ none. ([], bytes, refl, stuck_if_none bytes none)
      | Some found ↦ λ is.
          let first : BeginsWith bytes found.0 found.1 = piece_found bytes found.0 found.1 is in
          let (more, rest, cut, stuck) = cut_within n found.1 (omega (arith, begins_shorter bytes found.0 found.1 first)) in
          (found.0 ∷ more, rest, (found.1, first, cut), stuck)
    ]) refl

pub cut_exists : (bytes : List ℕ) → HasCut bytes
cut_exists bytes = cut_within (length bytes) bytes (omega arith)

-- ---- items

empty_or_not : (bytes : List ℕ) → (bytes ≡ []) ⊎ (bytes ≢ [])
empty_or_not [] = inl refl
empty_or_not (b ∷ bytes) = inr (λ e. cc)

pub items_exist : (bytes : List ℕ) → (tokens : List Token) × (ending : Ending) × HasItems bytes tokens ending
items_exist bytes =
    let (pieces, rest, cut, stuck) = cut_exists bytes in
    elim (empty_or_not rest) [
      | inl done ↦ (placed 0 pieces, AtEnd (length bytes), (pieces, subst (IsCut bytes pieces) done cut, refl, refl))
      | inr some ↦ (placed 0 pieces, AtBad (length_of pieces), (pieces, rest, cut, (some, stuck), refl, refl))
    ]

-- the cut that items stand for
pub record ItemsCut (bytes : List ℕ) (tokens : List Token) (ending : Ending) : Type 0 where
  pub pieces : List Piece
  pub rest : List ℕ
  pub cut : IsCut bytes pieces rest
  pub stuck : IsStuck rest
  pub are : tokens ≡ placed 0 pieces
  pub ends : ((rest ≡ []) × (ending ≡ AtEnd (length bytes))) ⊎ ((rest ≢ []) × (ending ≡ AtBad (length_of pieces)))

pub items_cut : (bytes : List ℕ) (tokens : List Token) (ending : Ending) → HasItems bytes tokens ending → ItemsCut bytes tokens ending
items_cut bytes tokens (AtEnd n) (pieces, cut, are, place) =
    record { pieces = pieces; rest = []; cut = cut; stuck = end_is_stuck; are = are; ends = inl (refl, ap AtEnd place) }
items_cut bytes tokens (AtBad n) (pieces, rest, cut, bad, are, place) =
    record { pieces = pieces; rest = rest; cut = cut; stuck = bad.1; are = are; ends = inr (bad.0, ap AtBad place) }

ends_same : (bytes r s : List ℕ) (p q : List Piece) (e f : Ending) → p ≡ q → r ≡ s
    → ((r ≡ []) × (e ≡ AtEnd (length bytes))) ⊎ ((r ≢ []) × (e ≡ AtBad (length_of p)))
    → ((s ≡ []) × (f ≡ AtEnd (length bytes))) ⊎ ((s ≢ []) × (f ≡ AtBad (length_of q))) → e ≡ f
ends_same bytes r s p q e f same_pieces same_rest (inl h) (inl k) = h.1 ∙ sym k.1
ends_same bytes r s p q e f same_pieces same_rest (inl h) (inr k) = absurd (k.0 (sym same_rest ∙ h.0))
ends_same bytes r s p q e f same_pieces same_rest (inr h) (inl k) = absurd (h.0 (same_rest ∙ k.0))
ends_same bytes r s p q e f same_pieces same_rest (inr h) (inr k) = h.1 ∙ ap (λ (ps : List Piece). AtBad (length_of ps)) same_pieces ∙ sym k.1

pub items_unique : (bytes : List ℕ) (s t : List Token) (e f : Ending) → HasItems bytes s e → HasItems bytes t f → (s ≡ t) × (e ≡ f)
items_unique bytes s t e f h k =
    let a = items_cut bytes s e h in
    let b = items_cut bytes t f k in
    let same = cut_unique bytes a.rest b.rest a.pieces b.pieces a.cut b.cut a.stuck b.stuck in
    (a.are ∙ ap (placed 0) same.0 ∙ sym b.are, ends_same bytes a.rest b.rest a.pieces b.pieces e f same.0 same.1 a.ends b.ends)

pub items_are_unique : ItemsAreUnique
items_are_unique = record { some = items_exist; one = items_unique }

-- ---- what the first bytes show

-- the tokens that are shown are the first, whatever follows
pub tokens_first : (bytes : List ℕ) (tokens : List Token) → ShowsTokens bytes tokens → (more : List ℕ) (all : List Token) (ending : Ending)
    → HasItems (bytes ++ more) all ending → (later : List Token) × (all ≡ tokens ++ later)
tokens_first bytes tokens (pieces, after, are, cuts) more all ending has =
    let (rest, cut) = cuts more in
    let a = items_cut (bytes ++ more) all ending has in
    let (later, is, onwards) = cut_front (bytes ++ more) rest a.rest pieces a.pieces cut a.cut a.stuck in
    let behind : List Token = placed (0 + length_of pieces) later in (
      after ++ behind,
      a.are ∙ ap (placed 0) is ∙ placed-append 0 pieces later ∙ ap (λ (ts : List Token). ts ++ behind) are ∙ append_assoc tokens after behind,
    )

-- whatever follows, a bad byte stands behind these pieces
pub shows_bad : (bytes : List ℕ) (pieces : List Piece) (behind : List ℕ → List ℕ) → ((more : List ℕ) → IsCut (bytes ++ more) pieces (behind more))
    → ((more : List ℕ) → IsBad (behind more)) → ShowsBad bytes (length_of pieces)
shows_bad bytes pieces behind cuts bad more all ending has =
    (items_unique (bytes ++ more) all (placed 0 pieces) ending (AtBad (length_of pieces)) has (pieces, behind more, cuts more, bad more, refl, refl)).1
