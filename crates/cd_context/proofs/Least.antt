-- A heap of pairs, read as a list.
use Rattle.std.proofs.Common.{◌≡◌, ℕ, ◌<◌, ◌≤◌, ◌⊎◌, inl, inr, Bool, true, false, cond, nat_eq, List, [], ◌∷◌, map, refl, sym, ◌∙◌, subst, arith, eqb-true, eq-eqb, IsPermutation}
use Rattle.std.specs.List.{AllByRecursion}
use Rattle.std.specs.Ordering.{is_lt, nat_cmp, ordering_then}
use Rattle.std.specs.BinaryHeap.{IsUpperBound}
use Rattle.std.specs.Cmp.{nat_cmp_is}
use Rattle.std.specs.declared.cmp.Ordering.TheVariants.{Less, Equal}
use Rattle.std.proofs.lemmas.Bool.{cases_order, cases_lt, false≢true}
use Rattle.std.proofs.lemmas.List.Sorted.{IsPermutation-sym, IsPermutation-map, All-permutation, length_permutation}
use Rattle.cd_base.specs.Lists.{OneOf}
use Rattle.cd_base.proofs.Members.{all_of_member, all_from_member, map_member}
use Rattle.cd_context.specs.TakeUp.{IsTakenFrom, IsPutInto}
use Rattle.cd_context.specs.Waits.{numbers, IsLeastTaken}

-- what is in a list is in each order of it
member_permuted : {X : Type 0} (xs ys : List X) → IsPermutation xs ys → (x : X) → OneOf x xs → OneOf x ys
member_permuted {X} xs ys p = all_of_member (λ (z : X). OneOf z ys) xs (All-permutation (λ (z : X). OneOf z ys) ys xs (IsPermutation-sym xs ys p) (all_from_member (λ (z : X). OneOf z ys) ys (λ z m. m)))

pub put_into : (n : ℕ) (old new : List ℕ) → IsPermutation (n ∷ old) new → IsPutInto n old new
put_into n old new p = record {
  isin = λ m h. member_permuted (n ∷ old) new p m h;
  only = λ m h. member_permuted new (n ∷ old) (IsPermutation-sym (n ∷ old) new p) m h;
  count = let l = length_permutation (n ∷ old) new p in omega arith;
}

pub taken_from : (n : ℕ) (old new : List ℕ) → IsPermutation old (n ∷ new) → IsTakenFrom n old new
taken_from n old new p = record {
  before = λ m h. member_permuted old (n ∷ new) p m h;
  after = λ m h. member_permuted (n ∷ new) old (IsPermutation-sym old (n ∷ new) p) m (inr h);
  count = let l = length_permutation old (n ∷ new) p in omega arith;
}

-- one number more is in a set, for which P holds too
pub among_added : (P : ℕ → Type 0) (had has : ℕ → Bool) (k : ℕ) → ((q : ℕ) → has q ≡ cond (nat_eq k q) true (had q)) → P k → ((q : ℕ) → had q ≡ true → P q) → (q : ℕ) → has q ≡ true → P q
among_added P had has k u p h q e = by (nat_eq k q) refl (sym (u q) ∙ e)
  where
    by : (b : Bool) → nat_eq k q ≡ b → cond b true (had q) ≡ true → P q
    by true t z = subst P (eqb-true k q t) p
    by false t z = h q z

-- a number is no longer in a set, and P of another one is R of it
pub among_removed : (P R : ℕ → Type 0) (had has : ℕ → Bool) (k : ℕ) → ((q : ℕ) → has q ≡ cond (nat_eq k q) false (had q)) → ((q : ℕ) → had q ≡ true → P q) → ((q : ℕ) → P q → (q ≡ k) ⊎ R q) → (q : ℕ) → has q ≡ true → R q
among_removed P R had has k u h split q e = by (nat_eq k q) refl (sym (u q) ∙ e)
  where
    by : (b : Bool) → nat_eq k q ≡ b → cond b false (had q) ≡ true → R q
    by true t z = absurd (false≢true z)
    by false t z = elim (split q (h q z)) [ inl i ↦ absurd (false≢true (sym t ∙ eq-eqb k q (sym i))) | inr r ↦ r ]

-- of two pairs of which the second is not less, the first is at most the second
least_pair : (a b c d : ℕ) → is_lt (ordering_then (nat_cmp c a) (nat_cmp d b)) ≡ false → (a < c) ⊎ ((a ≡ c) × (b ≤ d))
least_pair a b c d h = elim (cases_order c a) [
  | inl e ↦ elim (cases_lt d b) [
    | inl l ↦ absurd (false≢true (sym (subst (λ r. is_lt r ≡ false) (sym (nat_cmp_is d b Less l)) (subst (λ r. is_lt (ordering_then r (nat_cmp d b)) ≡ false) (sym (nat_cmp_is c a Equal e)) h))))
    | inr l ↦ inr (sym e, l)
  ]
  | inr o ↦ elim o [
    | inl l ↦ absurd (false≢true (sym (subst (λ r. is_lt (ordering_then r (nat_cmp d b)) ≡ false) (sym (nat_cmp_is c a Less l)) h)))
    | inr l ↦ inl l
  ]
]

all_member_of : {X : Type 0} (P : X → Type 0) (xs : List X) → AllByRecursion P xs → (x : X) → OneOf x xs → P x
all_member_of P [] h x m = absurd m
all_member_of P (y ∷ xs) h x (inl e) = subst P (sym e) h.0
all_member_of P (y ∷ xs) h x (inr m) = all_member_of P xs h.1 x m

numbers_permuted : {X : Type 0} (f : X → ℕ × ℕ) (x : X) (xs ys : List X) → IsPermutation (map f (x ∷ xs)) (map f ys) → IsPermutation ((f x).1 ∷ numbers (map f xs)) (numbers (map f ys))
numbers_permuted f x xs ys p = IsPermutation-map (λ q. q.1) (map f (x ∷ xs)) (map f ys) p

-- what was put into a heap was put into the pairs and the numbers
pub put_pairs : {X : Type 0} (f : X → ℕ × ℕ) (x : X) (old new : List X) → IsPermutation (x ∷ old) new → IsPermutation (f x ∷ map f old) (map f new)
put_pairs f x old new p = IsPermutation-map f (x ∷ old) new p

pub put_number : {X : Type 0} (f : X → ℕ × ℕ) (x : X) (old new : List X) → IsPermutation (x ∷ old) new → IsPutInto (f x).1 (numbers (map f old)) (numbers (map f new))
put_number f x old new p = put_into (f x).1 (numbers (map f old)) (numbers (map f new)) (numbers_permuted f x old new (put_pairs f x old new p))

-- what a heap gives is the least of its pairs
pub least_taken : {X : Type 0} (f : X → ℕ × ℕ) (x : X) (old new : List X) → IsPermutation old (x ∷ new)
    → IsUpperBound (λ a b. ordering_then (nat_cmp (f b).0 (f a).0) (nat_cmp (f b).1 (f a).1)) x old → IsLeastTaken (f x).1 (map f old) (map f new)
least_taken f x old new p h = record {
  elements = (f x).0;
  rest = IsPermutation-map f old (x ∷ new) p;
  least = λ q m. let r = map_member f q old m in
      subst (λ w. ((f x).0 < w.0) ⊎ (((f x).0 ≡ w.0) × ((f x).1 ≤ w.1))) (sym r.2) (least_pair (f x).0 (f x).1 (f r.0).0 (f r.0).1 (all_member_of _ old h r.0 r.1));
  taken = taken_from (f x).1 (numbers (map f old)) (numbers (map f new)) (IsPermutation-map (λ q. q.1) (map f old) (f x ∷ map f new) (IsPermutation-map f old (x ∷ new) p));
}
