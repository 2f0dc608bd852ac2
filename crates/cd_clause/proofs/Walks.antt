-- A walk that takes the first of what is left.
use Rattle.std.proofs.Common.{◌≡◌, ◌<◌, ◌≤◌, ◌-◌, List, [], ◌∷◌, length, take, drop, get_or, refl, sym, ◌∙◌, ap, subst, inl, inr, arith}
use Rattle.std.proofs.Math.Seq.{take-length}
use Rattle.cd_base.specs.Lists.{OneOf}

-- what follows the first
pub tail : {X : Type 0} (z : X) (rest : List X) → take (length (z ∷ rest) - 1) (drop 1 (z ∷ rest)) ≡ rest
tail z rest = let n : length (z ∷ rest) - 1 ≡ length rest = omega arith in ap (λ k. take k rest) n ∙ take-length rest

-- a list with something is its first and what follows
pub opened : {X : Type 0} (rest : List X) (x : X) → 1 ≤ length rest → x ≡ get_or rest 0 x → rest ≡ x ∷ take (length rest - 1) (drop 1 rest)
opened [] x l e = absurd (omega arith)
opened (z ∷ rest) x l e = ap (λ w. z ∷ w) (sym (tail z rest)) ∙ ap (λ w. w ∷ take (length (z ∷ rest) - 1) (drop 1 (z ∷ rest))) (sym e)

-- nothing is left
pub closed : {X : Type 0} (rest : List X) → length rest < 1 → rest ≡ []
closed [] l = cc
closed (z ∷ rest) l = absurd (omega (arith, l))

-- the first is there
pub head_is : {X : Type 0} (rest : List X) (x : X) → 1 ≤ length rest → x ≡ get_or rest 0 x → OneOf x rest
head_is rest x l e = subst (OneOf x) (sym (opened rest x l e)) (inl refl)

-- and so is what follows
pub tail_within : {X : Type 0} (rest : List X) (x : X) → 1 ≤ length rest → x ≡ get_or rest 0 x → (y : X) → OneOf y (take (length rest - 1) (drop 1 rest)) → OneOf y rest
tail_within rest x l e y m = subst (OneOf y) (sym (opened rest x l e)) (inr m)
