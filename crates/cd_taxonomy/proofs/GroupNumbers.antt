-- The number of a group is the place of its representative.
use Rattle.std.proofs.Common.{◌≡◌, ℕ, zero, suc, ◌+◌, ◌<◌, eqb, not, List, [], ◌∷◌, length, get_or, arith, subst, false}
use Rattle.std.specs.List.{Contains, prefix_len}
use Rattle.std.proofs.lemmas.Bool.{cond_both, both_ways, eqb-true, eq-eqb, not-true, not-false}
use Rattle.cd_taxonomy.specs.Groups.{group_number}

-- d stands at i
abbrev pub StandsAt : List ℕ → ℕ → ℕ → Type 0
StandsAt rs d i = (i < length rs) × (get_or rs i 0 ≡ d)

here : (s d : ℕ) (rs : List ℕ) → not (eqb s d) ≡ false → StandsAt (s ∷ rs) d 0
here s d rs e = (omega arith, eqb-true s d (not-false (eqb s d) e))

later : (s d n : ℕ) (rs : List ℕ) → StandsAt rs d n → StandsAt (s ∷ rs) d (1 + n)
later s d n rs h = let P : ℕ → Type 0 = StandsAt (s ∷ rs) d in let e : suc n ≡ 1 + n = omega arith in subst P e (omega (arith, h.0), h.1)

stands : (rs : List ℕ) (d k : ℕ) → k < length rs → get_or rs k d ≡ d → StandsAt rs d (group_number rs d)
stands [] d k h e = absurd (omega arith)
stands (s ∷ rs) d zero h e =
    cond_both (not (eqb s d)) (1 + prefix_len (λ x. not (eqb x d)) rs) 0 (StandsAt (s ∷ rs) d)
    (λ t. absurd (both_ways (eqb s d) (not-true (eqb s d) t) (eq-eqb s d e))) (here s d rs)
stands (s ∷ rs) d (suc k) h e =
    cond_both (not (eqb s d)) (1 + prefix_len (λ x. not (eqb x d)) rs) 0 (StandsAt (s ∷ rs) d)
    (λ t. later s d (group_number rs d) rs (stands rs d k (omega arith) e)) (here s d rs)

pub number_stands : (rs : List ℕ) (d : ℕ) → Contains rs d → StandsAt rs d (group_number rs d)
number_stands rs d h = stands rs d h.0 h.1 h.2
