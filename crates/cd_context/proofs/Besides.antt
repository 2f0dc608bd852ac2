-- What is found beside an element of a premise.
use Rattle.std.proofs.Common.{◌≡◌, ◌≢◌, ◌↔◌, ◌==◌, ℕ, zero, suc, ◌+◌, ◌<◌, ◌≤◌, ◌&&◌, not, Bool, true, false, List, [], ◌∷◌, ◌++◌, length, get_or, refl, sym, ap, ◌∙◌, subst, inl, inr, arith, eq-eqb, eqb-true}
use Rattle.std.specs.Prelude.{nat_lt}
use Rattle.std.proofs.lemmas.Bool.{and_from, and_parts, cases_eq, cond-true, lt-ltb, ltb-true, ne_eqb, not_from_false}
use Rattle.std.proofs.lemmas.List.{nil_from_length}
use Rattle.cd_base.specs.Lists.{OneOf}
use Rattle.cd_base.specs.Normal.{is_triple_below}
use Rattle.cd_base.specs.declared.normal.Conj.{Conj}
use Rattle.cd_base.specs.declared.normal.Normal.{Normal}
use Rattle.cd_base.specs.declared.normal.Triple.{Triple}
use Rattle.cd_base.proofs.Members.{all_member, not_true, any_by_member, any_member, member_at, member_cases, member_left, member_right}
use Rattle.cd_clause.specs.Elements.{Eligible, IsGreatestAt}
use Rattle.cd_clause.specs.declared.elem.Elem.{Elem}
use Rattle.cd_clause.specs.declared.elem.Elem.TheVariants.{Plain}
use Rattle.cd_clause.proofs.Eligibles.{eligible_one}
use Rattle.cd_index.specs.Index.{IsFiling, has, is_filed, is_free, left_of}
use Rattle.cd_index.proofs.Filing.{atom_below}
use Rattle.cd_rules.specs.LookUps.{AreAtAtom, HasAllWith, filed_at}
use Rattle.cd_rules.specs.Steps.{IsWithoutOne}
use Rattle.cd_rules.proofs.Found.{number_found}
use Rattle.cd_store.specs.LookUps.{HasElem}
use Rattle.cd_context.specs.Beside.{HasAllAtoms, IsHad, IsBesideLeft, IsBesideByFiled, IsBesideByOne, IsBesideByCon, IsBesideByUniversal, IsBesideExist, IsBeside}

-- ---- one left side

-- the clause has the atom at another place
abbrev pub IsElsewhere : List (List Elem) → List ℕ → ℕ → ℕ → Type 0
IsElsewhere clauses atoms place m = (j : ℕ) × (j < length atoms) × (j ≡ place → ⊥) × HasElem clauses (Plain (get_or atoms j 0)) m

-- the clause has the atom at place j, which is another one
abbrev pub OfPlace : List (List Elem) → List ℕ → ℕ → ℕ → ℕ → Type 0
OfPlace clauses atoms place j m = (j ≡ place → ⊥) × HasElem clauses (Plain (get_or atoms j 0)) m

-- the atom itself stands on a left side from which it is taken
pub stands : (a : ℕ) (left taken : List ℕ) → IsWithoutOne a left taken → OneOf a left
stands a left taken w = subst (OneOf a) (sym w.2) (member_right a w.0 (a ∷ w.1) (inl refl))

-- the atoms of a left side are the one that is taken out, and the others
pub all_had : (Up : ℕ → Type 0) (clauses : List (List Elem)) (a : ℕ) (left taken : List ℕ) → IsHad Up clauses (Plain a) → IsWithoutOne a left taken → ((b : ℕ) → OneOf b taken → IsHad Up clauses (Plain b)) → (b : ℕ) → OneOf b left → IsHad Up clauses (Plain b)
all_had Up clauses a left taken own w h b m = elim (member_cases b w.0 (a ∷ w.1) (subst (OneOf b) w.2 m)) [
  | inl q ↦ h b (subst (OneOf b) (sym w.3) (member_left b w.0 w.1 q))
  | inr q ↦ elim q [ inl e ↦ subst (λ (z : ℕ). IsHad Up clauses (Plain z)) (sym e) own | inr z ↦ h b (subst (OneOf b) (sym w.3) (member_right b w.0 w.1 z)) ]
]

-- each of the others stands at a place beside that of the one that is taken out
other_place : (a b : ℕ) (before after : List ℕ) → OneOf b (before ++ after) → (j : ℕ) × (j < length (before ++ (a ∷ after))) × (j ≡ length before → ⊥) × (get_or (before ++ (a ∷ after)) j 0 ≡ b)
other_place a b [] after m = let w = member_at b after m in (suc w.0, omega (arith, w.1), (λ e. absurd (omega arith)), w.2 0)
other_place a b (c ∷ before) after (inl e) = (0, omega arith, (λ z. absurd (omega arith)), sym e)
other_place a b (c ∷ before) after (inr m) =
    let w = other_place a b before after m in
    (suc w.0, omega (arith, w.1), (λ e. w.2 (omega arith)), w.3)

own_place : (a : ℕ) (before after : List ℕ) → (length before < length (before ++ (a ∷ after))) × (get_or (before ++ (a ∷ after)) (length before) 0 ≡ a)
own_place a [] after = (omega arith, refl)
own_place a (c ∷ before) after = let w = own_place a before after in (omega (arith, w.0), w.1)

-- whichever place of the atom is left out, the others have each of the other atoms
pub elsewhere : (Up : ℕ → Type 0) (clauses : List (List Elem)) (a : ℕ) (left : List ℕ) (place m : ℕ) → place < length left → get_or left place 0 ≡ a → IsBesideLeft Up clauses a left m → IsElsewhere clauses left place m
elsewhere Up clauses a left place m l e q =
    let w = q.1 in
    let b = q.3.0 in
    let there = other_place a b w.0 w.1 (subst (OneOf b) w.3 q.3.1) in
    let own = own_place a w.0 w.1 in
    let n : ℕ = length w.0 in
    let lt : there.0 < length left = subst (λ (z : List ℕ). there.0 < length z) (sym w.2) there.1 in
    let is : get_or left there.0 0 ≡ b = ap (λ (z : List ℕ). get_or z there.0 0) w.2 ∙ there.3 in
    let lt_own : n < length left = subst (λ (z : List ℕ). n < length z) (sym w.2) own.0 in
    let is_own : get_or left n 0 ≡ a = ap (λ (z : List ℕ). get_or z n 0) w.2 ∙ own.1 in
    elim (cases_eq there.0 place) [
      | inl same ↦ (
        n,
        lt_own,
        (λ z. there.2 (same ∙ sym z)),
        subst (λ (x : ℕ). HasElem clauses (Plain x) m) (sym is ∙ ap (λ k. get_or left k 0) same ∙ e ∙ sym is_own) q.3.2,
      )
      | inr differ ↦ (there.0, lt, differ, subst (λ (x : ℕ). HasElem clauses (Plain x) m) (sym is) q.3.2)
    ]

-- ---- axioms by number

-- by the axiom of the number at place i
abbrev pub OfNumber : Normal → (ℕ → Type 0) → List (List Elem) → ℕ → List ℕ → ℕ → ℕ → Type 0
OfNumber n Up clauses a numbers i m = IsBesideLeft Up clauses a (left_of n.n1 (get_or numbers i 0)) m

pub by_number : (n : Normal) (Up : ℕ → Type 0) (clauses : List (List Elem)) (a : ℕ) (numbers : List ℕ) (m : ℕ) → IsBesideByOne n Up clauses a numbers m → (i : ℕ) × (i < length numbers) × OfNumber n Up clauses a numbers i m
by_number n Up clauses a numbers m q = let w = member_at q.0 numbers q.1 in (w.0, w.1, subst (λ k. IsBesideLeft Up clauses a (left_of n.n1 k) m) (sym (w.2 0)) q.2)

-- all axioms with the atom on the left are among these
pub by_all : (n : Normal) (Up : ℕ → Type 0) (clauses : List (List Elem)) (a : ℕ) (numbers : List ℕ) → HasAllWith n.n1 a numbers → (m : ℕ) → IsBesideByCon n Up clauses a m → IsBesideByOne n Up clauses a numbers m
by_all n Up clauses a numbers h m q = (q.0, h q.0 q.1 (stands a (left_of n.n1 q.0) q.2.0 q.2.1), q.2)

-- the left side of the axiom at a place
pub left_read : (axioms : List Conj) (k : ℕ) (x : Conj) → k < length axioms → x ≡ get_or axioms k x → left_of axioms k ≡ x.left
left_read [] k x l e = absurd (omega arith)
left_read (y ∷ axioms) zero x l e = ap (λ (c : Conj). c.left) (sym e)
left_read (y ∷ axioms) (suc k) x l e = left_read axioms k x (omega arith) e

-- by an axiom that is filed under the atom at place i
abbrev pub OfAtomAt : Normal → (ℕ → Type 0) → List (List Elem) → List (List ℕ) → List ℕ → ℕ → ℕ → ℕ → Type 0
OfAtomAt n Up clauses filed atoms a i m = IsBesideByFiled n filed Up clauses a (get_or atoms i 0) m

in_filed : (filed : List (List ℕ)) (number b k : ℕ) → b < number → OneOf k (get_or filed b []) → OneOf k (filed_at filed number b)
in_filed filed number b k l m = subst (OneOf k) (sym (cond-true (nat_lt b number) (get_or filed b []) [] (lt-ltb b number l))) m

has_member : (atoms : List ℕ) (a : ℕ) → has a atoms ≡ true → OneOf a atoms
has_member atoms a h = let w = any_member (λ (b : ℕ). b == a) atoms h in subst (λ z. OneOf z atoms) (eqb-true w.0 a w.2) w.1

-- an atom on the left is in range
left_below : (n : Normal) (k atom : ℕ) → OneOf atom (left_of n.n1 k) → atom < n.atoms
left_below n k atom m = atom_below n.atoms n.n1 k atom n.n1_within (any_by_member (λ (b : ℕ). b == atom) (left_of n.n1 k) atom m (eq-eqb atom atom refl))

-- an axiom with a left side is filed under the atom that is chosen from it
filed_there : (n : Normal) (filed : List (List ℕ)) (filing : IsFiling n.n1 n.atoms filed) (k : ℕ) → k < length n.n1 → left_of n.n1 k ≢ []
    → OneOf (filing.chosen k) (left_of n.n1 k) × OneOf k (filed_at filed n.atoms (filing.chosen k))
filed_there n filed filing k l some =
    let a : ℕ = filing.chosen k in
    let there : OneOf a (left_of n.n1 k) = has_member (left_of n.n1 k) a (filing.stands k l some) in
    let below : a < n.atoms = left_below n k a there in
    let not_free : is_free n.n1 k ≡ false = ne_eqb (length (left_of n.n1 k)) 0 (λ e. some (nil_from_length (left_of n.n1 k) e)) in (
      there,
      in_filed filed n.atoms a k below
          (subst (OneOf k) (sym (filing.exact.at a below))
          (number_found n.n1 (λ (j : ℕ). is_filed n.n1 filing.chosen a j) k l (and_from (not (is_free n.n1 k)) (a == a) (not_from_false (is_free n.n1 k) not_free) (eq-eqb a a refl)))),
    )

-- an axiom that can fire is filed under an atom of a stored clause
pub by_filed : (n : Normal) (Up : ℕ → Type 0) (clauses : List (List Elem)) (atoms : List ℕ) (a : ℕ) (filed : List (List ℕ)) → (a < n.atoms → IsFiling n.n1 n.atoms filed) → HasAllAtoms clauses atoms → IsHad Up clauses (Plain a) → (m : ℕ) → IsBesideByCon n Up clauses a m
    → (i : ℕ) × (i < length atoms) × OfAtomAt n Up clauses filed atoms a i m
by_filed n Up clauses atoms a filed filing every own m q =
    let left = left_of n.n1 q.0 in
    let there : OneOf a left = stands a left q.2.0 q.2.1 in
    let g : IsFiling n.n1 n.atoms filed = filing (left_below n q.0 a there) in
    let at = filed_there n filed g q.0 q.1 (λ e. absurd (subst (OneOf a) e there)) in
    let chosen : ℕ = g.chosen q.0 in
    let some : IsHad Up clauses (Plain chosen) = all_had Up clauses a left q.2.0 own q.2.1 q.2.2 chosen at.0 in
    let w = member_at chosen atoms (every chosen some.0 some.2) in
    let is : chosen ≡ get_or atoms w.0 0 = sym (w.2 0) in
    (w.0, w.1, subst (λ b. IsBesideByFiled n filed Up clauses a b m) is (left_below n q.0 chosen at.0, (q.0, at.1, q.2)))

-- ---- universals

-- the clause has the atom of the universal at place i
abbrev pub OfUniversal : List Triple → List (List Elem) → ℕ → ℕ → Type 0
OfUniversal universals clauses i m = (t : Triple) × (get_or universals i t ≡ t) × HasElem clauses (Plain t.atom) m

pub by_universal : (n : Normal) (clauses : List (List Elem)) (m : ℕ) → IsBesideExist n clauses m → (i : ℕ) × (i < length n.n4) × OfUniversal n.n4 clauses i m
by_universal n clauses m q = let w = member_at q.0 n.n4 q.1 in (w.0, w.1, (q.0, w.2 q.0, q.2))

-- the clause has the atom at place i, which has a universal
abbrev pub OfAtom : Normal → List (List Elem) → List ℕ → ℕ → ℕ → Type 0
OfAtom n clauses atoms i m = IsBesideByUniversal n clauses (get_or atoms i 0) m

pub by_atom : (n : Normal) (clauses : List (List Elem)) (atoms : List ℕ) → HasAllAtoms clauses atoms → (m : ℕ) → IsBesideExist n clauses m → (i : ℕ) × (i < length atoms) × OfAtom n clauses atoms i m
by_atom n clauses atoms every m q =
    let w = member_at q.0.atom atoms (every q.0.atom m q.2) in
    let is : q.0.atom ≡ get_or atoms w.0 0 = sym (w.2 0) in
    (w.0, w.1, subst (λ a. IsBesideByUniversal n clauses a m) is ((q.0, q.1, refl), q.2))

-- the atom of a universal is in range
pub universal_below : (n : Normal) (a : ℕ) → ((t : Triple) × OneOf t n.n4 × (t.atom ≡ a)) → a < n.atoms
universal_below n a q =
    let t : Triple = q.0 in
    let h = all_member (is_triple_below n.atoms n.roles) n.n4 n.n4_within t q.1 in
    let b = and_parts (nat_lt t.atom n.atoms && nat_lt t.role n.roles) (nat_lt t.other n.atoms) h in
    subst (λ (c : ℕ). c < n.atoms) q.2 (ltb-true t.atom n.atoms (and_parts (nat_lt t.atom n.atoms) (nat_lt t.role n.roles) b.0).0)

-- a list is empty, or has something
pub has_some : {X : Type 0} (xs ys : List X) (b : Bool) → xs ≡ ys → b ≡ (length xs == 0) → (not b ≡ true) ↔ ((x : X) × OneOf x ys)
has_some xs ys b s e = (
  λ h. elim (cases_eq (length xs) 0) [
    | inl z ↦ absurd (not_true (length xs == 0) (ap not (sym e) ∙ h) (eq-eqb (length xs) 0 z))
    | inr some ↦ some_of xs ys s some
  ],
  λ q. none_of xs ys b s e q,
)
  where
    some_of : {X : Type 0} (xs ys : List X) → xs ≡ ys → (length xs ≡ 0 → ⊥) → (x : X) × OneOf x ys
    some_of [] ys s h = absurd (h refl)
    some_of (x ∷ xs) ys s h = (x, subst (λ l. OneOf x l) s (inl refl))

    none_of : {X : Type 0} (xs ys : List X) (b : Bool) → xs ≡ ys → b ≡ (length xs == 0) → (x : X) × OneOf x ys → not b ≡ true
    none_of [] ys b s e q = absurd (subst (λ l. OneOf q.0 l) (sym s) q.1)
    none_of (x ∷ xs) ys b s e q = ap not (e ∙ ne_eqb (length (x ∷ xs)) 0 (λ z. absurd (omega arith)))

-- an atom has a universal just where it has a list of some
pub universal_of : (triples found : List Triple) (a : ℕ) (b : Bool) → AreAtAtom triples a found → b ≡ (length found == 0) → (not b ≡ true) ↔ ((t : Triple) × OneOf t triples × (t.atom ≡ a))
universal_of triples found a b h e =
    let w = has_some found found b refl e in
    (λ t. (let q = w.0 t in let p = (h q.0).0 q.1 in (q.0, p.0, p.1)), λ q. w.1 (q.0, (h q.0).1 (q.1, q.2)))

-- ---- elements

-- what is beside an eligible element is beside the greatest one
pub by_greatest : (n : Normal) (Up : ℕ → Type 0) (clauses : List (List Elem)) (c : List Elem) (i : ℕ) (x : Elem) (m : ℕ) → IsGreatestAt n c i → x ≡ get_or c i (Plain 0)
    → ((e : Elem) × Eligible n e c × IsBeside n Up clauses e m) → IsBeside n Up clauses x m
by_greatest n Up clauses c i x m g r q =
    subst (λ e. IsBeside n Up clauses e m) (eligible_one n c q.0 (get_or c i (Plain 0)) q.1 g.eligible ∙ sym r) q.2

-- ---- candidates

-- k is the number at place i, live, and another one, and doesn't wait
abbrev pub OfTakenUp : List ℕ → List ℕ → List ℕ → ℕ → ℕ → ℕ → Type 0
OfTakenUp candidates live waiting premise i k = (k ≡ get_or candidates i 0) × OneOf k live × (OneOf k waiting → ⊥) × (k ≡ premise → ⊥)

pub all_taken_up : (candidates live waiting : List ℕ) (premise k : ℕ) → (OneOf k candidates × OneOf k live × (OneOf k waiting → ⊥) × (k ≡ premise → ⊥)) → (i : ℕ) × (i < length candidates) × OfTakenUp candidates live waiting premise i k
all_taken_up candidates live waiting premise k q = let w = member_at k candidates q.0 in (w.0, w.1, (sym (w.2 0), q.1, q.2, q.3))

-- ---- a search among numbers

-- one place more was passed without what is sought
pub not_yet : (Q : ℕ → Type 0) (xs : List ℕ) (i : ℕ) → ((k : ℕ) → k < i → Q (get_or xs k 0) → ⊥) → (Q (get_or xs i 0) → ⊥) → (k : ℕ) → k < i + 1 → Q (get_or xs k 0) → ⊥
not_yet Q xs i h f k l q = elim (cases_eq k i) [ inl e ↦ f (subst (λ j. Q (get_or xs j 0)) e q) | inr d ↦ h k (omega (arith, l, d)) q ]

-- all were
pub none_there : (Q : ℕ → Type 0) (xs : List ℕ) (i : ℕ) → length xs ≤ i → ((k : ℕ) → k < i → Q (get_or xs k 0) → ⊥) → (m : ℕ) → OneOf m xs → Q m → ⊥
none_there Q xs i l h m mem q = let w = member_at m xs mem in h w.0 (omega (arith, w.1, l)) (subst Q (sym (w.2 0)) q)
