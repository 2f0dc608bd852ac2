-- The scans of the live clauses.
use Rattle.std.proofs.Common.{◌≡◌, ◌↔◌, ℕ, zero, suc, ◌<◌, ◌≤◌, inl, inr, List, [], ◌∷◌, ◌++◌, length, map, get_or, refl, sym, ap, ◌∙◌, subst, arith}
use Rattle.cd_clause.specs.declared.elem.Elem.{Elem}
use Rattle.cd_base.specs.Lists.{OneOf}
use Rattle.cd_base.specs.Keys.{code}
use Rattle.cd_base.specs.declared.lit.Lit.{Lit}
use Rattle.cd_base.proofs.Members.{member_left, member_right, member_cases, member_at, member_get, map_member}
use Rattle.cd_store.specs.Filing.{listed, chosen_by, HasChosen}
use Rattle.cd_store.specs.Sift.{IsCovered, Leaves, Sifts}
use Rattle.cd_store.specs.Store.{IsAscending}
use Rattle.cd_store.proofs.Picks.{ascends_append}

pub get_same : {X : Type 0} (xs : List X) (i : ℕ) (d e : X) → i < length xs → get_or xs i d ≡ get_or xs i e
get_same [] i d e h = absurd (omega arith)
get_same (x ∷ xs) zero d e h = refl
get_same (x ∷ xs) (suc i) d e h = get_same xs i d e (omega arith)

pub ascends_at : (ns : List ℕ) (i k : ℕ) → IsAscending ns → i ≤ k → k < length ns → get_or ns i 0 ≤ get_or ns k 0
ascends_at [] i k a l h = absurd (omega arith)
ascends_at (n ∷ ns) zero zero a l h = omega arith
ascends_at (n ∷ ns) zero (suc k) a l h = let b : n < get_or ns k 0 = a.0 _ (member_get ns k 0 (omega arith)) in omega arith
ascends_at (n ∷ ns) (suc i) zero a l h = absurd (omega arith)
ascends_at (n ∷ ns) (suc i) (suc k) a l h = ascends_at ns i k a.1 (omega arith) (omega arith)

pub sift_keep : (dead xs ys : List ℕ) (n : ℕ) → Leaves dead xs ys → (OneOf n dead → ⊥) → Leaves dead (xs ++ n ∷ []) (ys ++ n ∷ [])
sift_keep dead xs ys n s w = record {
  kept = λ m h. elim (member_cases m xs (n ∷ []) h) [ inl k ↦ elim (s.kept m k) [ inl j ↦ inl (member_left m ys (n ∷ []) j) | inr v ↦ inr v ] | inr k ↦ inl (member_right m ys (n ∷ []) k) ];
  only = λ m h. elim (member_cases m ys (n ∷ []) h) [
    | inl k ↦ (member_left m xs (n ∷ []) (s.only m k).0, (s.only m k).1)
    | inr k ↦ (member_right m xs (n ∷ []) k, λ v. w (elim k [ inl e ↦ subst (λ q. OneOf q dead) e v | inr z ↦ absurd z ]))
  ];
  ascends = λ a. ascends_append ys n (s.ascends (ascends_front xs n a)) (λ m h. ascends_last xs n a m (s.only m h).0);
}
  where
    ascends_front : (ns : List ℕ) (n : ℕ) → IsAscending (ns ++ n ∷ []) → IsAscending ns
    ascends_front [] n a = tt
    ascends_front (k ∷ ns) n a = (λ m h. a.0 m (member_left m ns (n ∷ []) h), ascends_front ns n a.1)

    ascends_last : (ns : List ℕ) (n : ℕ) → IsAscending (ns ++ n ∷ []) → (m : ℕ) → OneOf m ns → m < n
    ascends_last [] n a m h = absurd h
    ascends_last (k ∷ ns) n a m (inl e) = subst (λ q. q < n) (sym e) (a.0 n (member_right n ns (n ∷ []) (inl refl)))
    ascends_last (k ∷ ns) n a m (inr h) = ascends_last ns n a.1 m h

pub sift_drop : (dead xs ys : List ℕ) (n : ℕ) → Leaves dead xs ys → OneOf n dead → Leaves dead (xs ++ n ∷ []) ys
sift_drop dead xs ys n s w = record {
  kept = λ m h. elim (member_cases m xs (n ∷ []) h) [ inl k ↦ s.kept m k | inr k ↦ elim k [ inl e ↦ inr (subst (λ q. OneOf q dead) (sym e) w) | inr z ↦ absurd z ] ];
  only = λ m h. (member_left m xs (n ∷ []) (s.only m h).0, (s.only m h).1);
  ascends = λ a. s.ascends (front xs n a);
}
  where
    front : (ns : List ℕ) (n : ℕ) → IsAscending (ns ++ n ∷ []) → IsAscending ns
    front [] n a = tt
    front (k ∷ ns) n a = (λ m h. a.0 m (member_left m ns (n ∷ []) h), front ns n a.1)

-- where the dead ones are the live covered clauses
pub sifted : (clauses : List (List Elem)) (c : List Elem) (live dead after : List ℕ) → ((n : ℕ) → OneOf n dead ↔ IsCovered clauses live c n) → Leaves dead live after → Sifts clauses c live after
sifted clauses c live dead after h s = record {
  kept = λ n m. elim (s.kept n m) [ inl k ↦ inl k | inr d ↦ inr ((h n).0 d).1 ];
  only = λ n m. let o = s.only n m in (o.0, λ w. o.1 ((h n).1 (o.0, w)));
  ascends = s.ascends;
}

-- the number at place i is that of a live covered clause
abbrev pub IsCoveredAt : List ℕ → List (List Elem) → List ℕ → List Elem → ℕ → ℕ → Type 0
IsCoveredAt numbers clauses live c i n = (n ≡ get_or numbers i 0) × IsCovered clauses live c n

pub covered_place : (numbers : List ℕ) (clauses : List (List Elem)) (live : List ℕ) (c : List Elem) (n : ℕ) → OneOf n numbers × IsCovered clauses live c n → (i : ℕ) × (i < length numbers) × IsCoveredAt numbers clauses live c i n
covered_place numbers clauses live c n q = let w = member_at n numbers q.0 in (w.0, w.1, (sym (w.2 0), q.1))

-- a number is in the list of the literal at place i, and P of it
abbrev pub ChosenAt : List (ℕ × List ℕ) → ℕ → List Lit → (ℕ → Type 0) → ℕ → ℕ → Type 0
ChosenAt f r lits P i n = ((x : Lit) → OneOf n (listed f (chosen_by r (code (get_or lits i x))))) × P n

pub chosen_place : (f : List (ℕ × List ℕ)) (r : ℕ) (lits : List Lit) (P : ℕ → Type 0) (n : ℕ) → HasChosen f r (map code lits) n → P n → (i : ℕ) × (i < length lits) × ChosenAt f r lits P i n
chosen_place f r lits P n b p =
    let w = map_member code b.0 lits b.1 in
    let at = member_at w.0 lits w.1 in
    (at.0, at.1, (λ x. subst (λ q. OneOf n (listed f (chosen_by r q))) (w.2 ∙ ap code (sym (at.2 x))) b.2, p))
