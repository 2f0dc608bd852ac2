-- A clause without the element at a place is its rest beside that element, since no element stands twice in it.
use Rattle.std.proofs.Common.{◌≡◌, ℕ, zero, suc, ◌<◌, true, List, [], ◌∷◌, length, get_or, refl, sym, ◌∙◌, ap, subst, inl, inr, arith}
use Rattle.std.proofs.lemmas.Bool.{cond-true, cond-false, both_ways, false_from_ne_true}
use Rattle.std.specs.List.{remove}
use Rattle.cd_base.specs.Lists.{OneOf, SameSet}
use Rattle.cd_base.specs.Ascending.{Ascending}
use Rattle.cd_base.proofs.Members.{member_get}
use Rattle.cd_clause.specs.Elements.{is_before, same_elem, rest}
use Rattle.cd_clause.specs.declared.elem.Elem.{Elem}
use Rattle.cd_clause.specs.declared.elem.Elem.TheVariants.{Plain}
use Rattle.cd_clause.proofs.Elements.{same_elem-true, same_elem-refl}
use Rattle.cd_clause.proofs.Order.{elems_strict}

-- an element that stands before another is not that element
apart : (e f : Elem) → is_before e f ≡ true → e ≡ f → ⊥
apart e f b q = both_ways (is_before e e) (elems_strict.irreflexive e) (subst (λ w. is_before e w ≡ true) (sym q) b)

-- the rest beside an element that isn't there is the whole list
rest_of_others : (e : Elem) (c : List Elem) → ((f : Elem) → OneOf f c → is_before e f ≡ true) → rest e c ≡ c
rest_of_others e [] b = refl
rest_of_others e (f ∷ c) b =
    cond-false (same_elem e f) (rest e c) (f ∷ rest e c) (false_from_ne_true (same_elem e f) (λ t. apart e f (b f (inl refl)) (same_elem-true e f t)))
    ∙ ap (λ w. f ∷ w) (rest_of_others e c (λ g m. b g (inr m)))

-- without the element at a place, an ascending list is its rest beside that element
pub without_is_rest : (c : List Elem) (i : ℕ) → Ascending is_before c → i < length c → remove c i ≡ rest (get_or c i (Plain 0)) c
without_is_rest [] i a l = absurd (omega arith)
without_is_rest (e ∷ c) zero a l = sym (cond-true (same_elem e e) (rest e c) (e ∷ rest e c) (same_elem-refl e) ∙ rest_of_others e c a.0)
without_is_rest (e ∷ c) (suc i) a l =
    let k : i < length c = omega arith in
    let x : Elem = get_or c i (Plain 0) in
    ap (λ w. e ∷ w) (without_is_rest c i a.1 k)
    ∙ sym (cond-false (same_elem x e) (rest x c) (e ∷ rest x c) (false_from_ne_true (same_elem x e) (λ t. apart e x (a.0 x (member_get c i (Plain 0) k)) (sym (same_elem-true x e t)))))

-- the same, read as sets
pub without_rest : (c : List Elem) (i : ℕ) → Ascending is_before c → i < length c → SameSet (remove c i) (rest (get_or c i (Plain 0)) c)
without_rest c i a l = subst (SameSet (remove c i)) (without_is_rest c i a l) (λ x m. m, λ x m. m)
