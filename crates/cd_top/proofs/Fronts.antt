-- Known bytes that grow by one text and then by a front of another.
use Rattle.std.proofs.Common.{◌≡◌, ℕ, zero, suc, ◌+◌, List, [], ◌∷◌, ◌++◌, length, take, refl, sym, ap, subst}
use Rattle.std.specs.Prelude.{Option}
use Rattle.std.proofs.Math.Seq.{take-append-add}
use Rattle.std.specs.Io.KnownBytes.{Appends}
use Rattle.cd_io.specs.Streams.{AppendsFront}
use Rattle.cd_io.proofs.Appending.{Appends-trans}

-- a front of the first text is one of both
take_before : (xs ys : List ℕ) (n : ℕ) → (m : ℕ) × (take m (xs ++ ys) ≡ take n xs)
take_before xs ys zero = (zero, refl)
take_before [] ys (suc n) = (zero, refl)
take_before (x ∷ xs) ys (suc n) = let more = take_before xs ys n in (suc more.0, ap (λ (zs : List ℕ). x ∷ zs) more.1)

pub front_after : (a b c : Option (List ℕ)) (xs ys : List ℕ) → Appends a b xs → AppendsFront b c ys → AppendsFront a c (xs ++ ys)
front_after a b c xs ys h k = (length xs + k.0, subst (λ (zs : List ℕ). Appends a c zs) (sym (take-append-add xs ys k.0)) (Appends-trans a b c xs (take k.0 ys) h k.1))

pub front_before : (a b : Option (List ℕ)) (xs ys : List ℕ) → AppendsFront a b xs → AppendsFront a b (xs ++ ys)
front_before a b xs ys h =
    let front = take_before xs ys h.0 in
    (front.0, subst (λ (zs : List ℕ). Appends a b zs) (sym front.1) h.1)
