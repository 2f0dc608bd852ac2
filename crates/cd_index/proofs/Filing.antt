-- Axioms filed so far.
use Rattle.std.proofs.Common.{◌≡◌, ◌≢◌, ℕ, zero, suc, ◌+◌, ◌<◌, Bool, true, false, not, ◌&&◌, ◌==◌, List, [], ◌∷◌, ◌++◌, filter, length, get_or, set, refl, sym, ap, subst, ◌∙◌, inl, inr, arith, cond}
use Rattle.std.specs.List.{list_all, range_with_len}
use Rattle.std.specs.Prelude.{nat_lt}
use Rattle.std.proofs.lemmas.Bool.{and_parts, cases_lt, cond-true, cond-false, eqb-true, eq-eqb, false≢true, ltb-true, ne_eqb, or_cases}
use Rattle.std.proofs.lemmas.List.{nil_from_length}
use Rattle.cd_base.specs.declared.normal.Conj.{Conj}
use Rattle.cd_base.specs.Normal.{has_atoms_below, are_below}
use Rattle.cd_index.specs.Index.{has, is_filed, is_free, left_of, IsFiling}
use Rattle.cd_index.specs.Lists.{AreLists}
use Rattle.cd_index.proofs.Grown.{lists_push}
use Rattle.cd_index.proofs.Numbers.{numbers_more, numbers_left, numbers_agree}

-- the lists file each of the first i axioms that has a left side under the one atom that is chosen from it
pub record IsFiledUpTo (axioms : List Conj) (atoms i : ℕ) (filed : List (List ℕ)) : Type 0 where
  pub chosen : ℕ → ℕ
  pub stands : (k : ℕ) → k < i → left_of axioms k ≢ [] → has (chosen k) (left_of axioms k) ≡ true
  pub exact : AreLists atoms filed (λ atom. filter (is_filed axioms chosen atom) (range_with_len 0 i))

-- ---- an atom of a left side is an atom

has_below : (n : ℕ) (atoms : List ℕ) (a : ℕ) → are_below n atoms ≡ true → has a atoms ≡ true → a < n
has_below n [] a below h = absurd (false≢true h)
has_below n (b ∷ atoms) a below h =
    let both = and_parts (nat_lt b n) (are_below n atoms) below in
    elim (or_cases (b == a) (has a atoms) h) [
      | inl here ↦ (let same : b ≡ a = eqb-true b a here in let lt : b < n = ltb-true b n both.0 in omega arith)
      | inr later ↦ has_below n atoms a both.1 later
    ]

left_below : (n : ℕ) (axioms : List Conj) (k : ℕ) → list_all (has_atoms_below n) axioms ≡ true → are_below n (left_of axioms k) ≡ true
left_below n [] k below = refl
left_below n (c ∷ axioms) zero below = (and_parts (are_below n c.left) (are_below n c.right) (and_parts (has_atoms_below n c) (list_all (has_atoms_below n) axioms) below).0).0
left_below n (c ∷ axioms) (suc k) below = left_below n axioms k (and_parts (has_atoms_below n c) (list_all (has_atoms_below n) axioms) below).1

pub atom_below : (n : ℕ) (axioms : List Conj) (k a : ℕ) → list_all (has_atoms_below n) axioms ≡ true → has a (left_of axioms k) ≡ true → a < n
atom_below n axioms k a below h = has_below n (left_of axioms k) a (left_below n axioms k below) h

-- ---- one axiom more

module _ (axioms : List Conj) (atoms i : ℕ) (filed : List (List ℕ)) (before : IsFiledUpTo axioms atoms i filed) where
  -- one without a left side is not filed
  pub filed_none : left_of axioms i ≡ [] → IsFiledUpTo axioms atoms (i + 1) filed
  filed_none none = record {
    chosen = before.chosen;
    stands = λ k lt some. elim (cases_lt k i) [
      | inl earlier ↦ before.stands k earlier some
      | inr last ↦ absurd (some (ap (left_of axioms) (omega arith) ∙ none))
    ];
    exact = record {
      each = before.exact.each;
      at = λ a lt. before.exact.at a lt ∙ numbers_left (is_filed axioms before.chosen a) i (ap (λ (l : List ℕ). not (length l == 0) && before.chosen i == a) none);
    };
  }

  -- one with a left side is filed under an atom of it
  module _ (atom : ℕ) (list : List ℕ) (stands_there : has atom (left_of axioms i) ≡ true) (lt : atom < atoms) (is : list ≡ get_or filed atom [] ++ i ∷ []) where
    abbrev choice : ℕ → ℕ
    choice k = cond (k == i) atom (before.chosen k)

    chosen_there : choice i ≡ atom
    chosen_there = cond-true (i == i) atom (before.chosen i) (eq-eqb i i refl)

    chosen_before : (k : ℕ) → k < i → choice k ≡ before.chosen k
    chosen_before k earlier = cond-false (k == i) atom (before.chosen k) (ne_eqb k i (omega arith))

    some : left_of axioms i ≢ []
    some none = false≢true (ap (has atom) (sym none) ∙ stands_there)

    not_free : is_free axioms i ≡ false
    not_free = ne_eqb (length (left_of axioms i)) 0 (λ e. some (nil_from_length (left_of axioms i) e))

    grown : (a : ℕ) → filter (is_filed axioms choice a) (range_with_len 0 (i + 1)) ≡ filter (is_filed axioms before.chosen a) (range_with_len 0 i) ++ cond (atom == a) (i ∷ []) []
    grown a =
        numbers_more (is_filed axioms choice a) i
        ∙ ap (λ (l : List ℕ). l ++ cond (is_filed axioms choice a i) (i ∷ []) [])
        (numbers_agree (is_filed axioms choice a) (is_filed axioms before.chosen a) i (λ k earlier. ap (λ (b : ℕ). not (is_free axioms k) && b == a) (chosen_before k earlier)))
        ∙ ap (λ (t : Bool). filter (is_filed axioms before.chosen a) (range_with_len 0 i) ++ cond t (i ∷ []) [])
        (ap (λ (t : Bool). not t && choice i == a) not_free ∙ ap (λ (b : ℕ). b == a) chosen_there)

    pub filed_one : IsFiledUpTo axioms atoms (i + 1) (set filed atom list)
    filed_one = record {
      chosen = choice;
      stands = λ k k_in there. elim (cases_lt k i) [
        | inl earlier ↦ ap (λ (b : ℕ). has b (left_of axioms k)) (chosen_before k earlier) ∙ before.stands k earlier there
        | inr last ↦ (let same : i ≡ k = omega arith in
            subst (λ (j : ℕ). has (choice j) (left_of axioms j) ≡ true) same (ap (λ (b : ℕ). has b (left_of axioms i)) chosen_there ∙ stands_there))
      ];
      exact = lists_push atoms filed (λ a. filter (is_filed axioms before.chosen a) (range_with_len 0 i)) before.exact
          (λ a. filter (is_filed axioms choice a) (range_with_len 0 (i + 1))) atom i list lt
          (is ∙ ap (λ (l : List ℕ). l ++ i ∷ []) (before.exact.at atom lt)) grown;
    }

pub filed_all : (axioms : List Conj) (atoms i : ℕ) (filed : List (List ℕ)) → IsFiledUpTo axioms atoms i filed → i ≡ length axioms → IsFiling axioms atoms filed
filed_all axioms atoms i filed up whole = record {
  chosen = up.chosen;
  stands = λ k lt there. up.stands k (omega arith) there;
  exact = subst (λ (n : ℕ). AreLists atoms filed (λ a. filter (is_filed axioms up.chosen a) (range_with_len 0 n))) whole up.exact;
}

-- the lists before the first axiom
pub filed_at_start : (axioms : List Conj) (atoms : ℕ) (filed : List (List ℕ)) → AreLists atoms filed (λ _. []) → IsFiledUpTo axioms atoms 0 filed
filed_at_start axioms atoms filed are = record { chosen = λ k. 0; stands = λ k lt there. absurd (omega arith); exact = are }
