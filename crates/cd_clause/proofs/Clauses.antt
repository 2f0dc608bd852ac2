-- Lists of elements as clauses: joined, and with one removed.
use Rattle.std.proofs.Common.{◌≡◌, ◌-◌, ◌<◌, ℕ, zero, suc, List, [], ◌∷◌, ◌++◌, length, take, drop, refl, sym, ◌∙◌, ap, subst, inl, inr, arith}
use Rattle.std.proofs.Math.Seq.{take-length}
use Rattle.std.specs.List.{remove}
use Rattle.cd_base.specs.Lists.{OneOf, SameSet}
use Rattle.cd_base.specs.Ascending.{Ascending}
use Rattle.cd_base.proofs.Members.{member_left, member_right, member_cases}
use Rattle.cd_clause.specs.Elements.{is_before}
use Rattle.cd_clause.specs.Merged.{merged}
use Rattle.cd_clause.specs.declared.elem.Elem.{Elem}
use Rattle.cd_clause.proofs.Merged.{merged_same, merged_ascends}
use Rattle.cd_clause.proofs.Order.{elems_strict}

pub joined_ascends : (c d xs ys out : List Elem) → xs ≡ c → ys ≡ d → Ascending is_before c → Ascending is_before d → out ≡ merged is_before xs ys → Ascending is_before out
joined_ascends c d xs ys out p q v w e =
    let h : merged is_before c d ≡ out = cc in
    subst (Ascending is_before) h (merged_ascends is_before elems_strict c d v w)

pub joined_same : (c d xs ys out : List Elem) → xs ≡ c → ys ≡ d → out ≡ merged is_before xs ys → SameSet out (c ++ d)
joined_same c d xs ys out p q e =
    let h : merged is_before c d ≡ out = cc in
    subst (λ l. SameSet l (c ++ d)) h (merged_same is_before elems_strict c d)

-- copies of at most one element
pub few_ascend : (all pushed out : List Elem) → pushed ≡ [] → out ≡ pushed ++ all → length all < 2 → Ascending is_before out
few_ascend [] pushed out p e l =
    let h : [] ≡ out = cc in
    subst (Ascending is_before) h tt
few_ascend (e ∷ []) pushed out p q l =
    let h : e ∷ [] ≡ out = cc in
    subst (Ascending is_before) h (λ y m. absurd m, tt)
few_ascend (e ∷ f ∷ all) pushed out p q l = absurd (omega arith)

-- a clause of each half, joined
pub halves : (all left right c d out : List Elem) → all ≡ left ++ right → SameSet c left → SameSet d right → SameSet out (c ++ d) → SameSet out all
halves all left right c d out e p q s = subst (SameSet out) (sym e) (
  λ x m. elim (member_cases x c d (s.0 x m)) [ inl k ↦ member_left x left right (p.0 x k) | inr k ↦ member_right x left right (q.0 x k) ],
  λ x m. s.1 x (elim (member_cases x left right m) [ inl k ↦ member_left x c d (p.1 x k) | inr k ↦ member_right x c d (q.1 x k) ]),
)

member_remove : (z : Elem) (c : List Elem) (i : ℕ) → OneOf z (remove c i) → OneOf z c
member_remove z [] zero m = m
member_remove z [] (suc i) m = m
member_remove z (e ∷ c) zero m = inr m
member_remove z (e ∷ c) (suc i) (inl q) = inl q
member_remove z (e ∷ c) (suc i) (inr m) = inr (member_remove z c i m)

-- with one removed they still ascend
remove_ascends : (c : List Elem) (i : ℕ) → Ascending is_before c → Ascending is_before (remove c i)
remove_ascends [] zero a = a
remove_ascends [] (suc i) a = a
remove_ascends (e ∷ c) zero a = a.1
remove_ascends (e ∷ c) (suc i) a = (λ z m. a.0 z (member_remove z c i m), remove_ascends c i a.1)

pub removed_ascends : (c out : List Elem) (i : ℕ) → Ascending is_before c → out ≡ remove c i → Ascending is_before out
removed_ascends c out i a e = subst (Ascending is_before) (sym e) (remove_ascends c i a)

tail_of_drop : (c : List Elem) (i : ℕ) → take (length (drop i c) - 1) (drop 1 (drop i c)) ≡ drop (suc i) c
tail_of_drop [] zero = refl
tail_of_drop [] (suc i) = refl
tail_of_drop (e ∷ c) zero =
    let n : length (e ∷ c) - 1 ≡ length c = omega arith in
    ap (λ k. take k c) n ∙ take-length c
tail_of_drop (e ∷ c) (suc i) = tail_of_drop c i

-- the elements below a place, and those from there on without the first
pub removed : (c xs below from pushed out : List Elem) (i : ℕ) → xs ≡ c → below ≡ take i xs → from ≡ drop i xs → pushed ≡ below → out ≡ pushed ++ take (length from - 1) (drop 1 from) → out ≡ remove c i
removed c xs below from pushed out i p q r s e =
    let t = tail_of_drop xs i in
    let h : out ≡ take i xs ++ drop (suc i) xs = cc in
    subst (λ w. out ≡ remove w i) p h
