-- The least live clause that covers a clause, and those that it covers.
use Rattle.std.proofs.Common.{◌≡◌, ℕ, ◌<◌, ◌≤◌, ◌+◌, ◌-◌, ◌⊎◌, ◌==◌, Bool, true, false, not, cond, List, [], ◌∷◌, ◌++◌, Option, None, Some, length, take, drop, get_or, slice_get, zero, suc, refl, sym, ◌∙◌, ap, subst, inl, inr, arith}
use Rattle.std.proofs.lemmas.Bool.{cases_lt, ne_eqb, false≢true}
use Rattle.std.proofs.lemmas.List.{get_or_append_left, length-append}
use Rattle.std.specs.Option.{MatchOption}
use Rattle.cd_base.specs.Lists.{OneOf}
use Rattle.cd_clause.specs.Covering.{is_as_strong, Covers}
use Rattle.cd_clause.proofs.Strengths.{part_within, strong_atom, strong_exist}
use Rattle.cd_clause.proofs.Walks.{tail}
use Rattle.cd_clause.specs.declared.elem.Elem.{Elem}
use Rattle.cd_clause.specs.Derivations.{Redundant}
use Rattle.cd_clause.specs.Numbers.{picked}
use Rattle.cd_clause.specs.declared.elem.Elem.TheVariants.{Plain, Exist}
use Rattle.cd_store.specs.Filing.{chosen_by, empty_keys, ends_in, existentials, goes_on_from, listed, with_literal, AreFiled, HasWeakerUnder, IsFiled, IsUnder, IsUnderKey, IsUnderLast, KeepsFiled}
use Rattle.cd_store.specs.LookUps.{HasElem, HasExistential}
use Rattle.cd_store.specs.Sift.{IsCovered, Sifts}
use Rattle.cd_store.specs.Store.{IsStore, IsHeld}
use Rattle.cd_store.specs.Coverings.{HoldsCovering, IsAtMost, IsCovering}
use Rattle.cd_store.proofs.Picks.{picked_from, get_last}

-- where the empty clause is live it is the only one
pub only_empty : (clauses : List (List Elem)) (live : List ℕ) (n k : ℕ) → IsStore clauses live → OneOf n live → OneOf k live → get_or clauses n [] ≡ [] → n ≡ k
only_empty clauses live n k s h i e = s.minimal n k h i (λ x m. absurd (subst (λ d. OneOf x d) e m))

-- ---- what is filed

under_own : (f : List (ℕ × List ℕ)) (n q : ℕ) (e : Elem) → IsUnder f n q e → OneOf n (listed f q)
under_own f n q (Plain a) h = h
under_own f n q (Exist r k) h = h.0

under_key_kept : (f g : List (ℕ × List ℕ)) (n r : ℕ) (k : List ℕ) → KeepsFiled f g → IsUnderKey f r k n → IsUnderKey g r k n
under_key_kept f g n r ls k h = elim h [ inl m ↦ inl (k empty_keys n m) | inr c ↦ inr (c.0, c.1, k (chosen_by r c.0) n c.2) ]

pub under_kept : (f g : List (ℕ × List ℕ)) (n q : ℕ) (e : Elem) → KeepsFiled f g → IsUnder f n q e → IsUnder g n q e
under_kept f g n q (Plain a) k h = k q n h
under_kept f g n q (Exist r l) k h = (k q n h.0, k existentials n h.1, under_key_kept f g n r l k h.2)

pub last_kept : (f g : List (ℕ × List ℕ)) (n : ℕ) (e : Elem) → KeepsFiled f g → IsUnderLast f n e → IsUnderLast g n e
last_kept f g n (Plain a) k h = k (ends_in (Plain a)) n h
last_kept f g n (Exist r ls) k h = (λ l m. k (with_literal r l) n (h.0 l m), k existentials n h.1)

-- a clause is filed under its last element
pub filed_end : (f : List (ℕ × List ℕ)) (n : ℕ) (x : Elem) (c : List Elem) → IsFiled f n (x ∷ c) → (e : Elem) × OneOf e (x ∷ c) × IsUnderLast f n e
filed_end f n x [] h = (x, inl refl, h.1)
filed_end f n x (y ∷ c) h = let w = filed_end f n y c h.1 in (w.0, inr w.1, w.2)

-- and under each of its elements, as the last or as one that another follows
pub filed_with : (f : List (ℕ × List ℕ)) (n : ℕ) (c : List Elem) (e : Elem) → IsFiled f n c → OneOf e c → IsUnder f n (ends_in e) e ⊎ IsUnder f n (goes_on_from e) e
filed_with f n [] e h m = absurd m
filed_with f n (x ∷ []) e h m = elim m [ inl q ↦ inl (subst (λ (z : Elem). IsUnder f n (ends_in z) z) (sym q) h.0) | inr z ↦ absurd z ]
filed_with f n (x ∷ (y ∷ c)) e h m = elim m [
  | inl q ↦ inr (subst (λ (z : Elem). IsUnder f n (goes_on_from z) z) (sym q) h.0)
  | inr k ↦ filed_with f n (y ∷ c) e h.1 k
]

-- a weaker atom is the same
pub same_atom : (f : List (ℕ × List ℕ)) (n a : ℕ) → HasWeakerUnder f (Plain a) n → OneOf n (listed f (ends_in (Plain a))) ⊎ OneOf n (listed f (goes_on_from (Plain a)))
same_atom f n a (Plain b, s, u) = subst (λ (z : Elem). OneOf n (listed f (ends_in z)) ⊎ OneOf n (listed f (goes_on_from z))) (sym (strong_atom (Plain a) b s)) u
same_atom f n a (Exist r k, s, u) = absurd (false≢true s)

-- a weaker existential was filed under one of the literals, or under the empty key
pub weaker_key : (f : List (ℕ × List ℕ)) (n r : ℕ) (k : List ℕ) → HasWeakerUnder f (Exist r k) n → IsUnderKey f r k n
weaker_key f n r k (Plain a, s, u) = absurd (false≢true s)
weaker_key f n r k (Exist t ls, s, u) =
    let w = strong_exist (Exist r k) t ls s in
    let at : Exist r k ≡ Exist t w.0 = w.1 in
    let role : t ≡ r = cc in
    let key : w.0 ≡ k = cc in
    let under : IsUnderKey f t ls n = elim u [ inl h ↦ h.2 | inr h ↦ h.2 ] in
    elim under [
      | inl m ↦ inl m
      | inr c ↦ inr (c.0, subst (λ (z : List ℕ). OneOf c.0 z) key (part_within ls w.0 w.2 c.0 c.1), subst (λ (z : ℕ). OneOf n (listed f (chosen_by z c.0))) role c.2)
    ]

-- what ends in an element that is at least as strong as an atom, and as an existential
pub ends_in_same : (f : List (ℕ × List ℕ)) (n a : ℕ) (e : Elem) → is_as_strong e (Plain a) ≡ true → IsUnderLast f n e → OneOf n (listed f (ends_in (Plain a)))
ends_in_same f n a e s u = subst (λ (z : Elem). IsUnderLast f n z) (strong_atom e a s) u

pub has_each : (f : List (ℕ × List ℕ)) (n r : ℕ) (k : List ℕ) (e : Elem) → is_as_strong e (Exist r k) ≡ true → IsUnderLast f n e
    → ((l : ℕ) → OneOf l k → OneOf n (listed f (with_literal r l))) × OneOf n (listed f existentials)
has_each f n r k e s u =
    let w = strong_exist e r k s in
    let h : IsUnderLast f n (Exist r w.0) = subst (λ (z : Elem). IsUnderLast f n z) w.1 u in
    (λ l m. h.0 l (part_within k w.0 w.2 l m), h.1)

-- a stored clause with an element is in one of the two lists of the element
pub elem_listed : (f : List (ℕ × List ℕ)) (stored clauses : List (List Elem)) (e : Elem) (n : ℕ) → clauses ≡ stored → AreFiled f clauses → HasElem stored e n
    → OneOf n (listed f (ends_in e)) ⊎ OneOf n (listed f (goes_on_from e))
elem_listed f stored clauses e n q filed h =
    let k : HasElem clauses e n = subst (λ (s : List (List Elem)). HasElem s e n) (sym q) h in
    elim (filed_with f n (get_or clauses n []) e (filed n k.0) k.1) [ inl u ↦ inl (under_own f n (ends_in e) e u) | inr u ↦ inr (under_own f n (goes_on_from e) e u) ]

-- a stored clause with an existential is in their list
pub existential_listed : (f : List (ℕ × List ℕ)) (stored clauses : List (List Elem)) (n : ℕ) → clauses ≡ stored → AreFiled f clauses → HasExistential stored n
    → OneOf n (listed f existentials)
existential_listed f stored clauses n e filed h =
    let k : HasElem clauses (Exist h.0 h.1) n = subst (λ (s : List (List Elem)). HasElem s (Exist h.0 h.1) n) (sym e) h.2 in
    elim (filed_with f n (get_or clauses n []) (Exist h.0 h.1) (filed n k.0) k.1) [ inl u ↦ u.1 | inr u ↦ u.1 ]

-- what is in a list shows that it isn't empty
pub some_listed : (xs ys : List ℕ) (b : Bool) (n : ℕ) → xs ≡ ys → b ≡ (length xs == 0) → OneOf n ys → not b ≡ true
some_listed xs [] b n s e m = absurd m
some_listed xs (y ∷ ys) b n s e m = ap not (e ∙ ap (λ (l : List ℕ). length l == 0) s ∙ ne_eqb (length (y ∷ ys)) 0 (λ z. absurd (omega (arith, z))))

-- it stays so where more is filed
pub is_filed_kept : (f g : List (ℕ × List ℕ)) (n : ℕ) (c : List Elem) → KeepsFiled f g → IsFiled f n c → IsFiled g n c
is_filed_kept f g n [] k h = tt
is_filed_kept f g n (x ∷ []) k h = (under_kept f g n (ends_in x) x k h.0, last_kept f g n x k h.1)
is_filed_kept f g n (x ∷ (y ∷ c)) k h = (under_kept f g n (goes_on_from x) x k h.0, is_filed_kept f g n (y ∷ c) k h.1)

-- what is at a place is a member
pub member_got : {X : Type 0} (xs : List X) (i : ℕ) (x : X) → Some x ≡ slice_get xs i → OneOf x xs
member_got [] i x e = let q : Some x ≡ None = e in absurd (cc)
member_got (y ∷ xs) zero x e = let q : Some x ≡ Some y = e in let r : x ≡ y = cc in inl r
member_got (y ∷ xs) (suc i) x e = inr (member_got xs i x e)

-- ---- what covers a clause, and what it covers

-- each live clause that covers this one is found: it is the empty clause, or its last element is at least as strong as one of this one
pub all_found : (f : List (ℕ × List ℕ)) (clauses : List (List Elem)) (live : List ℕ) (clause : List Elem) (o : Option ℕ) → IsStore clauses live → AreFiled f clauses
    → ((n : ℕ) → OneOf n live → get_or clauses n [] ≡ [] → IsAtMost o n)
    → ((w e : Elem) (n : ℕ) → OneOf w clause → is_as_strong e w ≡ true → IsUnderLast f n e → IsCovering clauses live clause n → IsAtMost o n)
    → (n : ℕ) → IsCovering clauses live clause n → IsAtMost o n
all_found f clauses live clause o store filed empty covers n s = by (get_or clauses n []) refl
  where
    by : (d : List Elem) → get_or clauses n [] ≡ d → IsAtMost o n
    by [] e = empty n s.isin e
    by (x ∷ d) e =
        let g = filed_end f n x d (subst (λ q. IsFiled f n q) e (filed n (store.in_range n s.isin))) in
        let w = s.covers g.0 (subst (λ q. OneOf g.0 q) (sym e) g.1) in
        covers w.0 g.0 n w.1 w.2 g.2 s

-- and each live clause that this one covers: it has an element that the last of this one is at least as strong as
pub weaker_found : (f : List (ℕ × List ℕ)) (clauses : List (List Elem)) (live : List ℕ) (clause : List Elem) (e : Elem) (n : ℕ) → IsStore clauses live → AreFiled f clauses → OneOf e clause → IsCovered clauses live clause n → HasWeakerUnder f e n
weaker_found f clauses live clause e n store filed m s = let w = s.1 e m in (w.0, w.2, filed_with f n (get_or clauses n []) w.0 (filed n (store.in_range n s.0)) w.1)

-- the least of all live clauses that cover this one
pub finds : (clauses : List (List Elem)) (live : List ℕ) (clause : List Elem) (o : Option ℕ) → HoldsCovering clauses live clause o → ((n : ℕ) → IsCovering clauses live clause n → IsAtMost o n)
    → MatchOption o (Redundant (picked clauses live) clause → ⊥) (λ i. IsHeld clauses live clause i)
finds clauses live clause None h k = λ r. let p = picked_from clauses live r.0 r.1 in k p.0 (record { isin = p.1; covers = subst (λ c. Covers c clause) p.2 r.2 })
finds clauses live clause (Some i) h k = record { isin = h.isin; covers = h.covers; least = λ j m w. k j (record { isin = m; covers = w }) }

-- where it covers none nothing is taken out
pub sifts_none : (clauses : List (List Elem)) (clause : List Elem) (live : List ℕ) → ((n : ℕ) → OneOf n live → Covers clause (get_or clauses n []) → ⊥) → Sifts clauses clause live live
sifts_none clauses clause live none = record { kept = λ n h. inl h; only = λ n h. (h, none n h); ascends = λ a. a }

-- ---- walks

-- a walk takes the first of what is left
pub walked : {X : Type 0} (P : X → Type 0) (xs rest : List X) (x : X) → ((y : X) → OneOf y xs → OneOf y rest ⊎ P y) → 1 ≤ length rest → x ≡ get_or rest 0 x → P x
    → (y : X) → OneOf y xs → OneOf y (take (length rest - 1) (drop 1 rest)) ⊎ P y
walked P xs [] x inv l e p y m = absurd (omega arith)
walked P xs (z ∷ rest) x inv l e p y m = elim (inv y m) [
  | inl k ↦ elim k [ inl q ↦ inr (subst P (e ∙ sym q) p) | inr i ↦ inl (subst (λ w. OneOf y w) (sym (tail z rest)) i) ]
  | inr k ↦ inr k
]

-- nothing is left at its end
pub gone : {X : Type 0} (rest : List X) (x : X) → length rest < 1 → OneOf x rest → ⊥
gone [] x l m = m
gone (y ∷ rest) x l m = absurd (omega arith)

-- where nothing is left of a clause to be filed, that is filed
pub nothing_left : (f : List (ℕ × List ℕ)) (n : ℕ) (rest : List Elem) → length rest < 1 → IsFiled f n rest
nothing_left f n [] l = tt
nothing_left f n (y ∷ rest) l = absurd (omega arith)

-- the first of what is left is filed, and then the others are
pub first_filed : (f : List (ℕ × List ℕ)) (n : ℕ) (rest : List Elem) (x : Elem) (b : Bool) → 1 ≤ length rest → x ≡ get_or rest 0 x
    → b ≡ (length (take (length rest - 1) (drop 1 rest)) == 0)
    → IsUnder f n (cond b (ends_in x) (goes_on_from x)) x → (b ≡ true → IsUnderLast f n x) → IsFiled f n (take (length rest - 1) (drop 1 rest)) → IsFiled f n rest
first_filed f n [] x b l e q u last h = absurd (omega arith)
first_filed f n (z ∷ rest) x b l e q u last h =
    by rest (subst (λ (w : List Elem). b ≡ (length w == 0)) (tail z rest) q) (subst (λ (w : List Elem). IsFiled f n w) (tail z rest) h)
  where
    by : (w : List Elem) → b ≡ (length w == 0) → IsFiled f n w → IsFiled f n (z ∷ w)
    by [] q h = (
      subst (λ (w : Elem). IsUnder f n (ends_in w) w) e (subst (λ (v : Bool). IsUnder f n (cond v (ends_in x) (goes_on_from x)) x) q u),
      subst (λ (w : Elem). IsUnderLast f n w) e (last q),
    )
    by (y ∷ w) q h =
        let some : (length (y ∷ w) == 0) ≡ false = ne_eqb (length (y ∷ w)) 0 (λ z. absurd (omega (arith, z))) in
        (subst (λ (w : Elem). IsUnder f n (goes_on_from w) w) e (subst (λ (v : Bool). IsUnder f n (cond v (ends_in x) (goes_on_from x)) x) (q ∙ some) u), h)

-- what was filed stays so where more is
pub filed_kept : (f g : List (ℕ × List ℕ)) (clauses : List (List Elem)) → KeepsFiled f g → AreFiled f clauses → AreFiled g clauses
filed_kept f g clauses k h n l = is_filed_kept f g n (get_or clauses n []) k (h n l)

-- one clause more is stored, and filed
pub filed_more : (f : List (ℕ × List ℕ)) (clauses : List (List Elem)) (c : List Elem) → AreFiled f clauses → IsFiled f (length clauses) c → AreFiled f (clauses ++ c ∷ [])
filed_more f clauses c h k n l = elim (cases_lt n (length clauses)) [
  | inl b ↦ subst (λ d. IsFiled f n d) (sym (get_or_append_left clauses (c ∷ []) [] n b)) (h n b)
  | inr b ↦
      let s : length (clauses ++ c ∷ []) ≡ length clauses + 1 = length-append clauses (c ∷ []) in
      let q : length clauses ≡ n = omega arith in
      subst (λ j. IsFiled f j (get_or (clauses ++ c ∷ []) j [])) q (subst (λ d. IsFiled f (length clauses) d) (sym (get_last clauses c)) k)
]
