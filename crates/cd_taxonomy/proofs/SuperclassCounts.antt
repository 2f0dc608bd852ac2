-- Of two classes, one below the other, the lower has more superclasses, unless the two are equivalent.
use Rattle.std.proofs.Common.{◌≡◌, ℕ, ◌<◌, ◌≤◌, Bool, true, false, List, [], ◌∷◌, length, filter, slice_index, refl, sym, ap, ◌∙◌, arith, cond, inl, inr}
use Rattle.std.specs.List.{AllByRecursion, range_with_len}
use Rattle.std.proofs.lemmas.Bool.{false≢true, both_ways, cases_lt}
use Rattle.std.proofs.lemmas.List.{get_or-map, length-map}
use Rattle.std.proofs.lemmas.List.Elements.{recursion_from_All, All-from_recursion}
use Rattle.cd_base.specs.declared.answer.Answer.{Answer}
use Rattle.cd_base.specs.declared.answer.Answer.TheVariants.{Unsatisfiable}
use Rattle.cd_taxonomy.specs.Relation.{relation, IsSubsumption}
use Rattle.cd_taxonomy.specs.Steps.{superclasses, superclass_counts}
use Rattle.cd_taxonomy.proofs.Ranges.{all_below, at_below}

-- ---- two tests, of which the second passes what the first passes

module _ {X : Type 0} where
  kept_one_at_most : (s t : Bool) (x : X) (xs ys : List X) → (s ≡ true → t ≡ true) → length xs ≤ length ys → length (cond s (x ∷ xs) xs) ≤ length (cond t (x ∷ ys) ys)
  kept_one_at_most true true x xs ys h le = omega arith
  kept_one_at_most true false x xs ys h le = absurd (false≢true (h refl))
  kept_one_at_most false true x xs ys h le = omega arith
  kept_one_at_most false false x xs ys h le = le

  kept_one_same : (s t : Bool) (x : X) (xs ys : List X) → (s ≡ true → t ≡ true) → length xs ≤ length ys
      → length (cond s (x ∷ xs) xs) ≡ length (cond t (x ∷ ys) ys) → (t ≡ true → s ≡ true) × (length xs ≡ length ys)
  kept_one_same true true x xs ys h le e = (λ _. refl, omega arith)
  kept_one_same true false x xs ys h le e = absurd (false≢true (h refl))
  kept_one_same false true x xs ys h le e = absurd (omega arith)
  kept_one_same false false x xs ys h le e = (λ k. k, e)

module _ {X : Type 0} (p q : X → Bool) where
  pub kept_at_most : (xs : List X) → AllByRecursion (λ x. p x ≡ true → q x ≡ true) xs → length (filter p xs) ≤ length (filter q xs)
  kept_at_most [] h = omega arith
  kept_at_most (x ∷ xs) h = kept_one_at_most (p x) (q x) x (filter p xs) (filter q xs) h.0 (kept_at_most xs h.1)

  pub kept_same : (xs : List X) → AllByRecursion (λ x. p x ≡ true → q x ≡ true) xs → length (filter p xs) ≡ length (filter q xs) → AllByRecursion (λ x. q x ≡ true → p x ≡ true) xs
  kept_same [] h e = tt
  kept_same (x ∷ xs) h e =
      let both = kept_one_same (p x) (q x) x (filter p xs) (filter q xs) h.0 (kept_at_most xs h.1) e in
      (both.0, kept_same xs h.1 both.1)

-- ---- the numbers of superclasses

module _ (n : ℕ) (below : ℕ → ℕ → Bool) where
  -- how many classes are above a
  abbrev pub count : ℕ → ℕ
  count a = length (filter (below a) (range_with_len 0 n))

module _ {n : ℕ} {below : ℕ → ℕ → Bool} (s : IsSubsumption n below) (a b : ℕ) (a_in : a < n) (b_in : b < n) (a_below : below a b ≡ true) where
  above_too : AllByRecursion (λ c. below b c ≡ true → below a c ≡ true) (range_with_len 0 n)
  above_too = recursion_from_All (λ c. below b c ≡ true → below a c ≡ true) (range_with_len 0 n)
      (all_below (λ c. below b c ≡ true → below a c ≡ true) n (λ c c_in b_below. s.transitive a b c a_in b_in c_in a_below b_below))

  pub count_at_most : count n below b ≤ count n below a
  count_at_most = kept_at_most (below b) (below a) (range_with_len 0 n) above_too

  pub below_from_count : count n below a ≡ count n below b → below b a ≡ true
  below_from_count e =
      let back = kept_same (below b) (below a) (range_with_len 0 n) above_too (sym e) in
      at_below (λ c. below a c ≡ true → below b c ≡ true) n a a_in (All-from_recursion (λ c. below a c ≡ true → below b c ≡ true) (range_with_len 0 n) back) (s.reflexive a a_in)

  pub count_less : below b a ≡ false → count n below b < count n below a
  count_less refuted = elim (cases_lt (count n below b) (count n below a)) [
    | inl less ↦ less
    | inr more ↦ absurd (both_ways (below b a) refuted (below_from_count (omega (arith, count_at_most))))
  ]

pub count_same : {n : ℕ} {below : ℕ → ℕ → Bool} → IsSubsumption n below → (a b : ℕ) → a < n → b < n → below a b ≡ true → below b a ≡ true → count n below a ≡ count n below b
count_same s a b a_in b_in a_below b_below = omega (arith, count_at_most s a b a_in b_in a_below, count_at_most s b a b_in a_in b_below)

-- ---- the counts that the code has

pub counted : (above : List Answer) (counts : List ℕ) (n a : ℕ) → counts ≡ superclass_counts above → length above ≡ n → a < n → slice_index counts a ≡ count n (relation above) a
counted above counts n a is long a_in =
    ap (λ (xs : List ℕ). slice_index xs a) is
    ∙ get_or-map (λ (answer : Answer). length (superclasses (length above) answer)) above a Unsatisfiable 0 (omega arith)
    ∙ ap (λ m. count m (relation above) a) long

pub length-counts : (above : List Answer) (counts : List ℕ) (n : ℕ) → counts ≡ superclass_counts above → length above ≡ n → length counts ≡ n
length-counts above counts n is long = ap length is ∙ length-map above (λ (answer : Answer). length (superclasses (length above) answer)) ∙ long
