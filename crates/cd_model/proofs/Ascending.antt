-- Two ascending lists with the same members are equal.
use Rattle.std.proofs.Common.{◌≡◌, ℕ, List, [], ◌∷◌, inl, inr, refl, sym, subst, ◌∙◌}
use Rattle.std.specs.List.{AllByRecursion}
use Rattle.std.specs.List.Sorted.{IsStrictlyIncreasing, IsStrictlySortedBy}
use Rattle.std.specs.Ordering.{nat_cmp}
use Rattle.std.specs.declared.cmp.Ordering.TheVariants.{Less, Equal}
use Rattle.std.proofs.lemmas.Cmp.{tied_itself, nat_cmp_total}
use Rattle.std.proofs.lemmas.Map.Keys.{sorted_head, sorted_tail, sorted_from_strictly_increasing}
use Rattle.cd_base.specs.Lists.{OneOf}

-- no number is below itself
below_none : (x : ℕ) → nat_cmp x x ≡ Less → ⊥
below_none x less = let tied : nat_cmp x x ≡ Equal = tied_itself nat_cmp_total x in cc

-- a number below all of a list is below each member
below_each : (x : ℕ) (xs : List ℕ) → AllByRecursion (λ y. nat_cmp x y ≡ Less) xs → (k : ℕ) → OneOf k xs → nat_cmp x k ≡ Less
below_each x [] all k m = absurd m
below_each x (y ∷ ys) all k (inl e) = subst (λ z. nat_cmp x z ≡ Less) (sym e) all.0
below_each x (y ∷ ys) all k (inr m) = below_each x ys all.1 k m

-- a member that the first element of its list is below, stands in the other list behind that element
later : (x y : ℕ) (xs ys : List ℕ) → AllByRecursion (λ z. nat_cmp x z ≡ Less) xs → x ≡ y → (k : ℕ) → OneOf k xs → OneOf k (y ∷ ys) → OneOf k ys
later x y xs ys all e k m (inl f) = absurd (below_none x (subst (λ z. nat_cmp x z ≡ Less) (f ∙ sym e) (below_each x xs all k m)))
later x y xs ys all e k m (inr n) = n

-- the first elements are the same
same_first : (x y : ℕ) (xs ys : List ℕ) → IsStrictlySortedBy nat_cmp (x ∷ xs) → IsStrictlySortedBy nat_cmp (y ∷ ys) → OneOf x (y ∷ ys) → OneOf y (x ∷ xs) → x ≡ y
same_first x y xs ys up over (inl e) n = e
same_first x y xs ys up over (inr m) (inl f) = sym f
same_first x y xs ys up over (inr m) (inr n) = absurd (below_none x (nat_cmp_total.trans x y x (below_each x xs (sorted_head nat_cmp x xs up) y n) (below_each y ys (sorted_head nat_cmp y ys over) x m)))

same_sorted : (xs ys : List ℕ) → IsStrictlySortedBy nat_cmp xs → IsStrictlySortedBy nat_cmp ys → ((k : ℕ) → OneOf k xs → OneOf k ys) → ((k : ℕ) → OneOf k ys → OneOf k xs) → xs ≡ ys
same_sorted [] [] up over there back = refl
same_sorted [] (y ∷ ys) up over there back = absurd (back y (inl refl))
same_sorted (x ∷ xs) [] up over there back = absurd (there x (inl refl))
same_sorted (x ∷ xs) (y ∷ ys) up over there back =
    let first : x ≡ y = same_first x y xs ys up over (there x (inl refl)) (back y (inl refl)) in
    let rest : xs ≡ ys = same_sorted xs ys (sorted_tail nat_cmp x xs up) (sorted_tail nat_cmp y ys over)
    (λ k m. later x y xs ys (sorted_head nat_cmp x xs up) first k m (there k (inr m)))
    (λ k m. later y x ys xs (sorted_head nat_cmp y ys over) (sym first) k m (back k (inr m))) in
    cc

pub same_ascending : (xs ys : List ℕ) → IsStrictlyIncreasing xs → IsStrictlyIncreasing ys → ((k : ℕ) → OneOf k xs → OneOf k ys) → ((k : ℕ) → OneOf k ys → OneOf k xs) → xs ≡ ys
same_ascending xs ys up over = same_sorted xs ys (sorted_from_strictly_increasing xs up) (sorted_from_strictly_increasing ys over)
