-- The cut of a text as a function.
use Rattle.std.proofs.Common.{◌≡◌, ◌≤◌, ℕ, zero, suc, List, length, [], ◌∷◌, refl, subst, arith}
use Rattle.std.specs.Prelude.{Option, Some, None}
use Rattle.cd_lex.specs.Tokens.{Piece, BeginsWith, IsCut, placed, length_of, Ending, AtEnd, AtBad, HasItems}
use Rattle.cd_lex.specs.WorkedTokens.{IsCutInto, IsBadBehind}
use Rattle.cd_lex.proofs.CutFirst.{first_piece, piece_found}
use Rattle.cd_lex.proofs.CutLaws.{IsStuck, stuck_if_none, end_is_stuck, begins_shorter}

-- pieces in turn, and the rest
abbrev pub Cut : Type 0
Cut = List Piece × List ℕ

-- the first pieces of a text, at most so many
abbrev pub pieces_within : ℕ → List ℕ → Cut
pieces_within zero text = ([], text)
pieces_within (suc n) text = elim (first_piece text) [
  | None ↦ ([], text)
  | Some found ↦ let cut = pieces_within n found.1 in (found.0 ∷ cut.0, cut.1)
]

-- no text has more pieces than bytes
abbrev pub cut_of : List ℕ → Cut
cut_of text = pieces_within (length text) text

-- ---- what is computed is a cut, behind which no piece begins

abbrev IsWholeCut : List ℕ → Cut → Type 0
IsWholeCut text cut = IsCut text cut.0 cut.1 × IsStuck cut.1

cut_within : (n : ℕ) (text : List ℕ) → length text ≤ n → IsWholeCut text (pieces_within n text)
cut_within zero [] short = (refl, end_is_stuck)
cut_within zero (b ∷ text) short = absurd (omega arith)
cut_within (suc n) text short =
    let with_first : Option (Piece × List ℕ) → Cut = λ first. elim first [
      | None ↦ ([], text)
      | Some found ↦ let cut = pieces_within n found.1 in (found.0 ∷ cut.0, cut.1)
    ] in
    let P : Option (Piece × List ℕ) → Type 0 = λ first. first_piece text ≡ first → IsWholeCut text (with_first first) in
    (elim (first_piece text) as P [
      | None ↦ λ none. (refl, stuck_if_none text none)
      | Some found ↦ λ is.
          let first : BeginsWith text found.0 found.1 = piece_found text found.0 found.1 is in
          let (cut, stuck) = cut_within n found.1 (omega (arith, begins_shorter text found.0 found.1 first)) in
          ((found.1, first, cut), stuck)
    ]) refl

pub cut_is : (text : List ℕ) → IsCut text (cut_of text).0 (cut_of text).1 × IsStuck (cut_of text).1
cut_is text = cut_within (length text) text (omega arith)

-- ---- a cut that was written by hand

pub cut_into : (text : List ℕ) (pieces : List Piece) → cut_of text ≡ (pieces, []) → IsCutInto text pieces
cut_into text pieces same =
    record { cut = subst (λ (cut : Cut). IsCut text cut.0 cut.1) same (cut_is text).0 }

pub bad_behind : (text : List ℕ) (pieces : List Piece) (b : ℕ) (rest : List ℕ) → cut_of text ≡ (pieces, b ∷ rest) → IsBadBehind text pieces (b ∷ rest)
bad_behind text pieces b rest same = record {
  cut = subst (λ (cut : Cut). IsCut text cut.0 cut.1) same (cut_is text).0;
  bad = ((λ e. cc), subst (λ (cut : Cut). IsStuck cut.1) same (cut_is text).1);
}

-- ---- the items of a text

abbrev pub ending_of : ℕ → Cut → Ending
ending_of n (pieces, []) = AtEnd n
ending_of n (pieces, b ∷ rest) = AtBad (length_of pieces)

items_of : (text : List ℕ) (cut : Cut) → IsWholeCut text cut → HasItems text (placed 0 cut.0) (ending_of (length text) cut)
items_of text (pieces, []) is = (pieces, is.0, refl, refl)
items_of text (pieces, b ∷ rest) is = (pieces, b ∷ rest, is.0, ((λ e. cc), is.1), refl, refl)

pub items_are : (text : List ℕ) → HasItems text (placed 0 (cut_of text).0) (ending_of (length text) (cut_of text))
items_are text = items_of text (cut_of text) (cut_is text)
