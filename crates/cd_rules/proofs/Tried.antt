-- The axioms that the rule Con tries: those that are filed under atoms at hand.
use Rattle.std.proofs.Common.{◌≡◌, ◌≢◌, ◌↔◌, ◌==◌, ℕ, zero, suc, ◌<◌, ◌≤◌, true, false, not, List, [], ◌∷◌, ◌++◌, ◌+◌, map, length, get_or, refl, sym, ◌∙◌, subst, inl, inr, arith, eqb, eq-eqb, eqb-true}
use Rattle.std.specs.Prelude.{nat_lt}
use Rattle.std.specs.List.{Contains, dedup}
use Rattle.std.specs.List.Sorted.{IsPermutation}
use Rattle.std.proofs.lemmas.List.Kept.{Contains-dedup_nat, Contains-from_dedup}
use Rattle.std.proofs.lemmas.List.Sorted.{Contains-permutation, IsPermutation-sym}
use Rattle.std.proofs.lemmas.Bool.{and_from, cases_eq, cond-true, lt-ltb, ne_eqb, not_from_false}
use Rattle.std.proofs.lemmas.List.{get_or_read, nil_from_length}
use Rattle.cd_base.specs.Lists.{OneOf}
use Rattle.cd_base.specs.declared.normal.Conj.{Conj}
use Rattle.cd_base.specs.declared.normal.Normal.{Normal}
use Rattle.cd_base.proofs.Members.{any_by_member, any_member, map_member, member_at, member_cases, member_get, member_left, member_map, member_right}
use Rattle.cd_index.specs.Index.{IsFiling, has, is_filed, is_free, left_of}
use Rattle.cd_index.proofs.Filing.{atom_below}
use Rattle.cd_rules.specs.declared.partners.Partner.{Partner}
use Rattle.cd_rules.specs.Candidates.{AreAtHand, AreCandidates, AreFiledWith, HasWide}
use Rattle.cd_rules.specs.LookUps.{AreNumbers, filed_at}
use Rattle.cd_rules.proofs.ConNumbers.{left_at, on_left}
use Rattle.cd_rules.proofs.Found.{number_found}

-- k is the number at place i, of an axiom with the atom on the left
abbrev pub OfFound : List Conj → List ℕ → ℕ → ℕ → ℕ → Type 0
OfFound axioms found atom i k = (k ≡ get_or found i 0) × OneOf atom (left_of axioms k)

-- k is filed under the atom at place i, and has `atom` on the left
abbrev pub OfAtomAt : List Conj → List (List ℕ) → ℕ → List ℕ → ℕ → ℕ → ℕ → Type 0
OfAtomAt axioms filed number atoms atom i k = OneOf k (filed_at filed number (get_or atoms i 0)) × OneOf atom (left_of axioms k)

-- ---- one of some atoms

pub atom_found : (atom x : ℕ) (atoms : List ℕ) (i : ℕ) → i < length atoms → x ≡ get_or atoms i x → x ≡ atom → OneOf atom atoms
atom_found atom x atoms i l r e = subst (λ z. OneOf z atoms) (sym (get_or_read atoms i x l r 0) ∙ e) (member_get atoms i 0 l)

pub atom_missed : (atom : ℕ) (atoms : List ℕ) (n : ℕ) → length atoms ≤ n → ((k : ℕ) → k < n → get_or atoms k 0 ≡ atom → ⊥) → OneOf atom atoms → ⊥
atom_missed atom atoms n l h m = let w = member_at atom atoms m in h w.0 (omega (arith, w.1)) (w.2 0)

-- ---- in order

contains_member : (xs : List ℕ) (b : ℕ) → Contains xs b → OneOf b xs
contains_member xs b c = subst (λ z. OneOf z xs) c.2 (member_get xs c.0 b c.1)

member_contains : (xs : List ℕ) (b : ℕ) → OneOf b xs → Contains xs b
member_contains xs b m = let w = member_at b xs m in (w.0, w.1, w.2 b)

-- what is sorted and left once each has the same members
pub once_each : (xs ys : List ℕ) → IsPermutation xs ys → (b : ℕ) → OneOf b (dedup eqb ys) ↔ OneOf b xs
once_each xs ys p b = (
  λ m. contains_member xs b (Contains-permutation ys xs b (IsPermutation-sym xs ys p) (Contains-from_dedup eqb ys b (member_contains (dedup eqb ys) b m))),
  λ m. contains_member (dedup eqb ys) b (Contains-dedup_nat ys b (Contains-permutation xs ys b p (member_contains xs b m))),
)

-- ---- the atoms at hand

pub all_at_hand : (partners : List Partner) (atom x : ℕ) (of atoms out : List ℕ) → of ≡ map (λ (p : Partner). p.atom) partners → x ≡ atom → atoms ≡ of ++ x ∷ []
    → ((b : ℕ) → OneOf b out ↔ OneOf b atoms) → AreAtHand partners atom out
all_at_hand partners atom x of atoms out e f g same b = (
  λ m. elim (member_cases b of (x ∷ []) (subst (OneOf b) g ((same b).0 m))) [
    | inl k ↦ (let w = map_member (λ (p : Partner). p.atom) b partners (subst (OneOf b) e k) in inr (w.0, w.1, sym w.2))
    | inr k ↦ elim k [ inl q ↦ inl (q ∙ f) | inr z ↦ absurd z ]
  ],
  λ h. (same b).1 (subst (OneOf b) (sym g) (elim h [
    | inl q ↦ member_right b of (x ∷ []) (inl (q ∙ sym f))
    | inr q ↦ member_left b of (x ∷ []) (subst (OneOf b) (sym e) (subst (λ w. OneOf w (map (λ (p : Partner). p.atom) partners)) q.2 (member_map (λ (p : Partner). p.atom) q.0 partners q.1)))
  ])),
)

-- ---- numbers of axioms that are filed

pub found_whole : (axioms : List Conj) (found : List ℕ) (atom k : ℕ) → ((i : ℕ) × (i < length found) × OfFound axioms found atom i k) ↔ (OneOf k found × OneOf atom (left_of axioms k))
found_whole axioms found atom k = (
  λ q. (subst (λ z. OneOf z found) (sym q.2.0) (member_get found q.0 0 q.1), q.2.1),
  λ q. (let w = member_at k found q.0 in (w.0, w.1, (sym (w.2 0), q.1))),
)

pub filed_whole : (axioms : List Conj) (filed : List (List ℕ)) (number : ℕ) (atoms : List ℕ) (atom k : ℕ)
    → ((i : ℕ) × (i < length atoms) × OfAtomAt axioms filed number atoms atom i k) ↔ ((b : ℕ) × OneOf b atoms × OneOf k (filed_at filed number b) × OneOf atom (left_of axioms k))
filed_whole axioms filed number atoms atom k = (
  λ q. (get_or atoms q.0 0, member_get atoms q.0 0 q.1, q.2.0, q.2.1),
  λ q. (let w = member_at q.0 atoms q.1 in (w.0, w.1, (subst (λ b. OneOf k (filed_at filed number b)) (sym (w.2 0)) q.2, q.3))),
)

-- ---- candidates

-- what is filed at the place of an atom is filed under it
in_filed : (filed : List (List ℕ)) (number b k : ℕ) → b < number → OneOf k (get_or filed b []) → OneOf k (filed_at filed number b)
in_filed filed number b k l m = subst (OneOf k) (sym (cond-true (nat_lt b number) (get_or filed b []) [] (lt-ltb b number l))) m

has_member : (atoms : List ℕ) (a : ℕ) → has a atoms ≡ true → OneOf a atoms
has_member atoms a h = let w = any_member (λ (b : ℕ). b == a) atoms h in subst (λ z. OneOf z atoms) (eqb-true w.0 a w.2) w.1

-- an axiom that has an atom on the left is one of them
number_below : (axioms : List Conj) (k atom : ℕ) → OneOf atom (left_of axioms k) → k < length axioms
number_below [] k atom m = absurd m
number_below (x ∷ axioms) zero atom m = omega arith
number_below (x ∷ axioms) (suc k) atom m = let l : k < length axioms = number_below axioms k atom m in omega arith

-- an atom on the left is in range
left_below : (n : Normal) (k atom : ℕ) → OneOf atom (left_of n.n1 k) → atom < n.atoms
left_below n k atom m = atom_below n.atoms n.n1 k atom n.n1_within (any_by_member (λ (b : ℕ). b == atom) (left_of n.n1 k) atom m (eq-eqb atom atom refl))

-- an axiom with a left side is filed under the atom that is chosen from it
filed_there : (n : Normal) (filed : List (List ℕ)) (filing : IsFiling n.n1 n.atoms filed) (k : ℕ) → k < length n.n1 → left_of n.n1 k ≢ []
    → OneOf (filing.chosen k) (left_of n.n1 k) × OneOf k (filed_at filed n.atoms (filing.chosen k))
filed_there n filed filing k l some =
    let a : ℕ = filing.chosen k in
    let stands : OneOf a (left_of n.n1 k) = has_member (left_of n.n1 k) a (filing.stands k l some) in
    let below : a < n.atoms = left_below n k a stands in
    let not_free : is_free n.n1 k ≡ false = ne_eqb (length (left_of n.n1 k)) 0 (λ e. some (nil_from_length (left_of n.n1 k) e)) in (
      stands,
      in_filed filed n.atoms a k below
          (subst (OneOf k) (sym (filing.exact.at a below))
          (number_found n.n1 (λ (j : ℕ). is_filed n.n1 filing.chosen a j) k l (and_from (not (is_free n.n1 k)) (a == a) (not_from_false (is_free n.n1 k) not_free) (eq-eqb a a refl)))),
    )

module _ (n : Normal) (partners : List Partner) (atom : ℕ) (filed : List (List ℕ)) (atoms numbers : List ℕ) (filing : atom < n.atoms → IsFiling n.n1 n.atoms filed)
    (hand : AreAtHand partners atom atoms) (with_atom : AreFiledWith n.n1 filed n.atoms atoms atom numbers) where
  pub filed_try : AreCandidates n.n1 partners atom numbers
  filed_try = record {
    in_range = λ k m. number_below n.n1 k atom ((with_atom k).0 m).3;
    every = λ k l taken w h.
        let there : OneOf atom (left_of n.n1 k) = subst (OneOf atom) (sym w.2) (member_right atom w.0 (atom ∷ w.1) (inl refl)) in
        let f : IsFiling n.n1 n.atoms filed = filing (left_below n k atom there) in
        let at = filed_there n filed f k l (λ e. absurd (subst (OneOf atom) e there)) in
        (with_atom k).1 (f.chosen k, (hand (f.chosen k)).1 (on_left partners atom (left_of n.n1 k) taken w h (f.chosen k) at.0), at.1, there);
  }

-- ---- axioms with another atom on the left

-- the axiom at a place of the numbers has one
pub found_wide : (axioms : List Conj) (numbers : List ℕ) (i : ℕ) (x : Conj) → AreNumbers axioms numbers → i < length numbers → x ≡ get_or axioms (get_or numbers i 0) x → 1 < length x.left → HasWide axioms numbers
found_wide axioms numbers i x within l r w =
    let k : ℕ = get_or numbers i 0 in
    let m : OneOf k numbers = member_get numbers i 0 l in
    (k, m, subst (λ (y : List ℕ). 1 < length y) (sym (left_at axioms k x (within k m) (sym r))) w)

-- those below a place have none
abbrev pub AreNarrow : List Conj → List ℕ → ℕ → Type 0
AreNarrow axioms numbers i = (k : ℕ) → k < i → k < length numbers → 1 < length (left_of axioms (get_or numbers k 0)) → ⊥

pub narrow_more : (axioms : List Conj) (numbers : List ℕ) (i : ℕ) (x : Conj) → AreNumbers axioms numbers → i < length numbers → x ≡ get_or axioms (get_or numbers i 0) x
    → AreNarrow axioms numbers i → (1 < length x.left → ⊥) → AreNarrow axioms numbers (i + 1)
narrow_more axioms numbers i x within l r w f k lt m wide = elim (cases_eq k i) [
  | inl e ↦ (
      let j : ℕ = get_or numbers i 0 in
      f (subst (λ (y : List ℕ). 1 < length y) (left_at axioms j x (within j (member_get numbers i 0 l)) (sym r)) (subst (λ z. 1 < length (left_of axioms (get_or numbers z 0))) e wide)))
  | inr differ ↦ w k (omega (arith, lt)) m wide
]

pub no_wide : (axioms : List Conj) (numbers : List ℕ) (i : ℕ) → length numbers ≤ i → AreNarrow axioms numbers i → HasWide axioms numbers → ⊥
no_wide axioms numbers i l w (k, m, wide) =
    let p = member_at k numbers m in
    w p.0 (omega (arith, p.1)) p.1 (subst (λ z. 1 < length (left_of axioms z)) (sym (p.2 0)) wide)
