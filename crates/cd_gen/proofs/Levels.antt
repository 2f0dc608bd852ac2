-- The levels so far, and one more.
use Rattle.std.proofs.Common.{◌≡◌, ℕ, zero, suc, ◌+◌, List, [], ◌∷◌, ◌++◌, flat_map, sym, ap, ◌∙◌, arith, append_assoc}
use Rattle.std.specs.List.{range_with_len}
use Rattle.std.proofs.lemmas.List.{append-nil}
use Rattle.std.proofs.lemmas.List.Concat.{flat_map-append}

pub range_more : (a n : ℕ) → range_with_len a (suc n) ≡ range_with_len a n ++ (a + n) ∷ []
range_more a zero = ap (λ (k : ℕ). k ∷ []) (let e : a ≡ a + 0 = omega arith in e)
range_more a (suc n) = ap (λ (l : List ℕ). a ∷ l) (range_more (a + 1) n ∙ ap (λ (k : ℕ). range_with_len (a + 1) n ++ k ∷ []) (let e : a + 1 + n ≡ a + suc n = omega arith in e))

module _ {X : Type 0} (f : ℕ → List X) where
  pub levels_more : (n : ℕ) → flat_map f (range_with_len 0 (suc n)) ≡ flat_map f (range_with_len 0 n) ++ f n
  levels_more n =
      ap (flat_map f) (range_more 0 n ∙ ap (λ (k : ℕ). range_with_len 0 n ++ k ∷ []) (let e : 0 + n ≡ n = omega arith in e))
      ∙ flat_map-append f (range_with_len 0 n) (n ∷ [])
      ∙ ap (λ (l : List X). flat_map f (range_with_len 0 n) ++ l) (append-nil (f n))

  pub levels_next : (n : ℕ) (start before after : List X) → before ≡ start ++ flat_map f (range_with_len 0 n) → after ≡ before ++ f n
      → after ≡ start ++ flat_map f (range_with_len 0 (n + 1))
  levels_next n start before after so_far added =
      added ∙ ap (λ (l : List X). l ++ f n) so_far ∙ append_assoc start (flat_map f (range_with_len 0 n)) (f n)
      ∙ ap (λ (l : List X). start ++ l) (sym (levels_more n))
      ∙ ap (λ (k : ℕ). start ++ flat_map f (range_with_len 0 k)) (let e : suc n ≡ n + 1 = omega arith in e)

pub four_more : {X : Type 0} (start one two three four : List X) (a b c d w x y z : X) → a ≡ w → b ≡ x → c ≡ y → d ≡ z
    → one ≡ start ++ a ∷ [] → two ≡ one ++ b ∷ [] → three ≡ two ++ c ∷ [] → four ≡ three ++ d ∷ [] → four ≡ start ++ w ∷ x ∷ y ∷ z ∷ []
four_more start one two three four a b c d w x y z aw bx cy dz e f g h =
    let t : two ≡ start ++ w ∷ x ∷ [] = f ∙ simp (e, aw, bx, append_assoc) in
    let u : three ≡ start ++ w ∷ x ∷ y ∷ [] = g ∙ simp (t, cy, append_assoc) in
    h ∙ simp (u, dz, append_assoc)
