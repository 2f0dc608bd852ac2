-- Lists of numbers of axioms after one more axiom.
use Rattle.std.proofs.Common.{◌≡◌, ℕ, zero, suc, ◌+◌, ◌<◌, Bool, true, false, List, [], ◌∷◌, ◌++◌, filter, length, get_or, refl, sym, ap, subst, ◌∙◌, arith, cond}
use Rattle.std.specs.List.{All, range_with_len}
use Rattle.std.proofs.lemmas.List.{append-nil, map-id, get_or-map}
use Rattle.std.proofs.lemmas.List.Elements.{All-filter, All-from_get_or, All-same, filter-append}
use Rattle.std.proofs.lemmas.List.FromFn.{get_or-range_with_len, length-range_with_len, map-range_with_len_more}
use Rattle.cd_base.specs.declared.normal.Conj.{Conj}
use Rattle.cd_index.specs.Index.{left_of}
use Rattle.cd_index.specs.Lists.{AreLists}

range_more : (n : ℕ) → range_with_len 0 (n + 1) ≡ range_with_len 0 n ++ n ∷ []
range_more n =
    sym (map-id (range_with_len 0 (n + 1))) ∙ map-range_with_len_more (λ k. k) 0 n n (omega arith) ∙ ap (λ (l : List ℕ). l ++ n ∷ []) (map-id (range_with_len 0 n))

pub numbers_more : (test : ℕ → Bool) (n : ℕ) → filter test (range_with_len 0 (n + 1)) ≡ filter test (range_with_len 0 n) ++ cond (test n) (n ∷ []) []
numbers_more test n = ap (filter test) (range_more n) ∙ filter-append test (range_with_len 0 n) (n ∷ [])

-- the left side of an axiom
pub left_is : (axioms : List Conj) (k : ℕ) (c : Conj) → k < length axioms → left_of axioms k ≡ (get_or axioms k c).left
left_is axioms k c lt = get_or-map (λ (a : Conj). a.left) axioms k c [] lt

pub left_read : (axioms : List Conj) (k : ℕ) (c : Conj) → k < length axioms → c ≡ get_or axioms k c → left_of axioms k ≡ c.left
left_read axioms k c lt is = left_is axioms k c lt ∙ ap (λ (a : Conj). a.left) (sym is)

pub numbers_taken : (test : ℕ → Bool) (n : ℕ) (xs ys : List ℕ) → test n ≡ true → xs ≡ filter test (range_with_len 0 n) → ys ≡ xs ++ n ∷ []
    → ys ≡ filter test (range_with_len 0 (n + 1))
numbers_taken test n xs ys passes before is =
    is ∙ ap (λ (l : List ℕ). l ++ n ∷ []) before ∙ ap (λ (t : Bool). filter test (range_with_len 0 n) ++ cond t (n ∷ []) []) (sym passes) ∙ sym (numbers_more test n)

pub numbers_left : (test : ℕ → Bool) (n : ℕ) → test n ≡ false → filter test (range_with_len 0 n) ≡ filter test (range_with_len 0 (n + 1))
numbers_left test n fails =
    sym (append-nil (filter test (range_with_len 0 n))) ∙ ap (λ (t : Bool). filter test (range_with_len 0 n) ++ cond t (n ∷ []) []) (sym fails) ∙ sym (numbers_more test n)

numbers_below : (test : ℕ → Bool) (n : ℕ) → All (λ k. k < n) (filter test (range_with_len 0 n))
numbers_below test n =
    All-filter test (λ k. k < n) (range_with_len 0 n)
    (All-from_get_or (λ k. k < n) (range_with_len 0 n) 0
    (λ i lt. let short : i < n = omega (arith, length-range_with_len 0 n, lt) in omega (arith, get_or-range_with_len 0 n i 0 short, short)))

-- tests that agree below n keep the same numbers below n
pub numbers_agree : (p q : ℕ → Bool) (n : ℕ) → ((k : ℕ) → k < n → p k ≡ q k) → filter p (range_with_len 0 n) ≡ filter q (range_with_len 0 n)
numbers_agree p q zero agree = refl
numbers_agree p q (suc n) agree =
    let next : suc n ≡ n + 1 = omega arith in
    subst (λ (m : ℕ). filter p (range_with_len 0 m) ≡ filter q (range_with_len 0 m)) (sym next)
    (numbers_more p n ∙ ap (λ (l : List ℕ). l ++ cond (p n) (n ∷ []) []) (numbers_agree p q n (λ k lt. agree k (omega arith)))
    ∙ ap (λ (t : Bool). filter q (range_with_len 0 n) ++ cond t (n ∷ []) []) (agree n (omega arith)) ∙ sym (numbers_more q n))

-- the numbers in lists of numbers below n
pub lists_below : (m n : ℕ) (lists : List (List ℕ)) (test : ℕ → ℕ → Bool) → AreLists m lists (λ a. filter (test a) (range_with_len 0 n)) → All (λ list. All (λ k. k < n) list) lists
lists_below m n lists test are =
    All-from_get_or (λ list. All (λ k. k < n) list) lists []
    (λ a lt. All-same (λ k. k < n) (get_or lists a []) (filter (test a) (range_with_len 0 n)) (are.at a (omega (arith, are.each, lt))) (numbers_below (test a) n))

-- the next number, put into the lists of some atoms
pub lists_noted : (m n : ℕ) (old new : List (List ℕ)) (test : ℕ → ℕ → Bool) (noted : ℕ → Bool) → AreLists m old (λ a. filter (test a) (range_with_len 0 n))
    → AreLists (length old) new (λ a. get_or old a [] ++ cond (noted a) (n ∷ []) []) → ((a : ℕ) → test a n ≡ noted a)
    → AreLists m new (λ a. filter (test a) (range_with_len 0 (n + 1)))
lists_noted m n old new test noted before after same = record {
  each = after.each ∙ before.each;
  at = λ a lt. after.at a (omega (arith, before.each, lt)) ∙ ap (λ (l : List ℕ). l ++ cond (noted a) (n ∷ []) []) (before.at a lt)
      ∙ ap (λ (t : Bool). filter (test a) (range_with_len 0 n) ++ cond t (n ∷ []) []) (sym (same a)) ∙ sym (numbers_more (test a) n);
}
