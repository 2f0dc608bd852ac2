-- What look-ups find: the members of a filtered list, and nothing for what is out of range.
use Rattle.std.proofs.Common.{◌≡◌, ◌⊎◌, ℕ, zero, suc, ◌+◌, ◌<◌, ◌≤◌, ◌↔◌, ◌&&◌, ◌==◌, eqb, Bool, true, List, [], ◌∷◌, length, filter, refl, sym, ◌∙◌, ap, subst, inl, inr, arith, eqb-true, eq-eqb}
use Rattle.std.specs.Prelude.{nat_lt}
use Rattle.std.specs.List.{list_all, range_with_len}
use Rattle.std.proofs.lemmas.Bool.{and_parts, both_ways, cases_eq, cond_both, ltb-true}
use Rattle.cd_base.specs.Lists.{OneOf}
use Rattle.cd_base.specs.Normal.{has_atoms_below, is_triple_below, has_roles_below, Under, same, step}
use Rattle.cd_base.specs.declared.normal.Conj.{Conj}
use Rattle.cd_base.specs.declared.normal.RolePair.{RolePair}
use Rattle.cd_base.specs.declared.normal.Triple.{Triple}
use Rattle.cd_base.proofs.Members.{all_member, any_by_member}
use Rattle.cd_index.specs.Index.{at_atom, has, left_of, numbers_where, numbers_with}
use Rattle.cd_index.proofs.Filing.{atom_below}
use Rattle.cd_rules.specs.LookUps.{AreAtAtom, AreNumbers, HasAllWith}

-- ---- members of a filtered list

pub filtered_member : {X : Type 0} (p : X → Bool) (x : X) (xs : List X) → OneOf x (filter p xs) → OneOf x xs × (p x ≡ true)
filtered_member p x [] m = absurd m
filtered_member {X} p x (y ∷ xs) m =
    cond_both (p y) (y ∷ filter p xs) (filter p xs) (λ (l : List X). OneOf x l → OneOf x (y ∷ xs) × (p x ≡ true))
    (λ t n. elim n [ inl e ↦ (inl e, ap p e ∙ t) | inr k ↦ (let r = filtered_member p x xs k in (inr r.0, r.1)) ])
    (λ t n. let r = filtered_member p x xs n in (inr r.0, r.1))
    m

pub member_filtered : {X : Type 0} (p : X → Bool) (x : X) (xs : List X) → OneOf x xs → p x ≡ true → OneOf x (filter p xs)
member_filtered p x [] m e = absurd m
member_filtered {X} p x (y ∷ xs) m e =
    cond_both (p y) (y ∷ filter p xs) (filter p xs) (λ (l : List X). OneOf x l)
    (λ t. elim m [ inl q ↦ inl q | inr k ↦ inr (member_filtered p x xs k e) ])
    (λ t. elim m [ inl q ↦ absurd (both_ways (p y) t (ap p (sym q) ∙ e)) | inr k ↦ member_filtered p x xs k e ])

-- ---- members of a range

pub range_member : (k a n : ℕ) → OneOf k (range_with_len a n) → k < a + n
range_member k a zero m = absurd m
range_member k a (suc n) (inl e) = omega arith
range_member k a (suc n) (inr m) = let h : k < (a + 1) + n = range_member k (a + 1) n m in omega arith

pub member_range : (k a n : ℕ) → a ≤ k → k < a + n → OneOf k (range_with_len a n)
member_range k a zero h lt = absurd (omega arith)
member_range k a (suc n) h lt = elim (cases_eq k a) [
  | inl e ↦ inl e
  | inr d ↦ (let more : a + 1 ≤ k = omega arith in let less : k < (a + 1) + n = omega arith in inr (member_range k (a + 1) n more less))
]

-- ---- triples

-- those with the atom
pub found_at_atom : (triples : List Triple) (atom : ℕ) (found : List Triple) → found ≡ at_atom triples atom → AreAtAtom triples atom found
found_at_atom triples atom found is t =
    let test : Triple → Bool = λ (u : Triple). u.atom == atom in (
      λ m. let r = filtered_member test t triples (subst (λ (l : List Triple). OneOf t l) is m) in (r.0, eqb-true t.atom atom r.1),
      λ h. subst (λ (l : List Triple). OneOf t l) (sym is) (member_filtered test t triples h.0 (eq-eqb t.atom atom h.1)),
    )

-- none has an atom that is out of range
pub none_at_atom : (atoms roles : ℕ) (triples : List Triple) (atom : ℕ) → list_all (is_triple_below atoms roles) triples ≡ true → atoms ≤ atom → AreAtAtom triples atom []
none_at_atom atoms roles triples atom below out t = (
  λ m. absurd m,
  λ h. let lt : t.atom < atoms = atom_of_triple atoms roles t (all_member (is_triple_below atoms roles) triples below t h.0) in absurd (omega (arith, h.1)),
)
  where
    atom_of_triple : (atoms roles : ℕ) (t : Triple) → is_triple_below atoms roles t ≡ true → t.atom < atoms
    atom_of_triple atoms roles t e =
        ltb-true t.atom atoms (and_parts (nat_lt t.atom atoms) (nat_lt t.role roles) (and_parts (nat_lt t.atom atoms && nat_lt t.role roles) (nat_lt t.other atoms) e).0).0

-- ---- numbers of axioms

pub found_numbers : (axioms : List Conj) (test : ℕ → Bool) (found : List ℕ) → found ≡ numbers_where axioms test → AreNumbers axioms found
found_numbers axioms test found is k m =
    let r = filtered_member test k (range_with_len 0 (length axioms)) (subst (λ (l : List ℕ). OneOf k l) is m) in
    let h : k < 0 + length axioms = range_member k 0 (length axioms) r.0 in
    omega arith

pub number_found : (axioms : List Conj) (test : ℕ → Bool) (k : ℕ) → k < length axioms → test k ≡ true → OneOf k (numbers_where axioms test)
number_found axioms test k lt e =
    let h : k < 0 + length axioms = omega arith in
    member_filtered test k (range_with_len 0 (length axioms)) (member_range k 0 (length axioms) (omega arith) h) e

pub found_with : (axioms : List Conj) (atom : ℕ) (found : List ℕ) → found ≡ numbers_with axioms atom → HasAllWith axioms atom found
found_with axioms atom found is k lt m =
    subst (λ (l : List ℕ). OneOf k l) (sym is)
    (number_found axioms (λ (j : ℕ). has atom (left_of axioms j)) k lt (any_by_member (λ (a : ℕ). a == atom) (left_of axioms k) atom m (eq-eqb atom atom refl)))

-- no axiom has an atom on the left that is out of range
pub none_with : (atoms : ℕ) (axioms : List Conj) (atom : ℕ) → list_all (has_atoms_below atoms) axioms ≡ true → atoms ≤ atom → HasAllWith axioms atom []
none_with atoms axioms atom below out k lt m =
    let h : atom < atoms = atom_below atoms axioms k atom below (any_by_member (λ (a : ℕ). a == atom) (left_of axioms k) atom m (eq-eqb atom atom refl)) in
    absurd (omega arith)

-- ---- roles

-- roles of which one is under the other are the same or both in range
pub under_cases : (roles : ℕ) (pairs : List RolePair) (r t : ℕ) → list_all (has_roles_below roles) pairs ≡ true → Under pairs r t → (r ≡ t) ⊎ ((r < roles) × (t < roles))
under_cases roles pairs r t below same = inl refl
under_cases roles pairs r t below (step p u m e) =
    let both = and_parts (nat_lt p.lower roles) (nat_lt p.higher roles) (all_member (has_roles_below roles) pairs below p m) in
    let low : p.lower < roles = ltb-true p.lower roles both.0 in
    let high : p.higher < roles = ltb-true p.higher roles both.1 in
    elim (under_cases roles pairs r p.lower below u) [
      | inl q ↦ inr (omega (arith, q), omega (arith, e))
      | inr q ↦ inr (q.0, omega (arith, e))
    ]

-- where one of them is out of range, they are the same
pub under_outside : (roles : ℕ) (pairs : List RolePair) (r t : ℕ) → list_all (has_roles_below roles) pairs ≡ true → (r < roles → t < roles → ⊥) → (eqb r t ≡ true) ↔ Under pairs r t
under_outside roles pairs r t below out = (
  λ e. subst (λ (w : ℕ). Under pairs r w) (eqb-true r t e) same,
  λ u. elim (under_cases roles pairs r t below u) [ inl q ↦ eq-eqb r t q | inr q ↦ absurd (out q.0 q.1) ],
)
