-- The rule All with one clause, and with clauses by number.
use Rattle.std.proofs.Common.{◌≡◌, ℕ, List, [], ◌∷◌, ◌++◌, length, sym, ◌∙◌, ap, subst, arith}
use Rattle.cd_base.specs.Lists.{OneOf, SameSet}
use Rattle.cd_base.specs.Keys.{plain, key_with}
use Rattle.cd_base.specs.declared.normal.Normal.{Normal}
use Rattle.cd_base.specs.declared.normal.Triple.{Triple}
use Rattle.cd_clause.specs.declared.elem.Elem.{Elem}
use Rattle.cd_clause.specs.declared.elem.Elem.TheVariants.{Plain, Exist}
use Rattle.cd_clause.specs.Elements.{Eligible, rest}
use Rattle.cd_clause.specs.Numbers.{picked}
use Rattle.cd_base.specs.Appends.{Appends}
use Rattle.cd_rules.specs.Among.{Among}
use Rattle.cd_base.proofs.Appending.{otherwise}
use Rattle.cd_rules.specs.Facts.{IsPicked}
use Rattle.cd_rules.specs.LookUps.{AreAtAtom}
use Rattle.cd_rules.specs.Steps.{IsAllOfAtom, IsAllOfExist}
use Rattle.cd_rules.specs.Walks.{ByOne, IsAllBy, IsAllWithExist, IsAllWithAtom}
use Rattle.cd_rules.proofs.SameSets.{same_set_refl, same_set_trans, same_set_cons, same_set_append}

-- what is concluded depends on the elements of both rests alone
all_by_same : (n : Normal) (r : ℕ) (k : List ℕ) (left right left' right' : List Elem) → SameSet left left' → SameSet right right' → (t : Triple) (d : List Elem)
    → IsAllBy n r k left right t d → IsAllBy n r k left' right' t d
all_by_same n r k left right left' right' s u t d p =
    let e : Elem = Exist r (key_with (plain t.other) k) in
    (p.0, same_set_trans d (e ∷ (left ++ right)) (e ∷ (left' ++ right')) p.1 (same_set_cons e (left ++ right) (left' ++ right') (same_set_append left right left' right' s u)))

none_in : (triples : List Triple) → length triples ≡ 0 → (t : Triple) → OneOf t triples → ⊥
none_in [] z t m = m
none_in (s ∷ triples) z t m = absurd (omega arith)

same_atom : (a b : ℕ) → Plain a ≡ Plain b → a ≡ b
same_atom a b e = cc

not_both : (a r : ℕ) (k : List ℕ) → Exist r k ≡ Plain a → ⊥
not_both a r k e = cc

module _ (n : Normal) (triples : List Triple) (others c : List Elem) where
  -- the eligible element is an atom, and gives nothing
  pub atom_instead : (x : Elem) (a : ℕ) → ((f : Elem) → Eligible n f c → f ≡ x) → x ≡ Plain a → (d : List Elem) → IsAllWithExist n triples others c d → ⊥
  atom_instead x a only q d p = not_both a p.0 p.1 (only (Exist p.0 p.1) p.2 ∙ q)

  -- it is an existential, and gives what the axioms do, with the clause without it
  pub with_exist : (x : Elem) (r : ℕ) (k : List ℕ) (left : List Elem) {Done : Type 0} {old new : List (List Elem)} → ((f : Elem) → Eligible n f c → f ≡ x) → Eligible n x c → x ≡ Exist r k
      → SameSet left (rest x c) → Appends Among (ByOne (IsAllBy n r k left others) triples) Done old new → Appends Among (IsAllWithExist n triples others c) Done old new
  with_exist x r k left {Done = Done} {old = old} {new = new} only el q s a =
      let beside : List Elem = rest (Exist r k) c in
      let s' : SameSet left beside = subst (λ w. SameSet left (rest w c)) q s in
      otherwise (ByOne (IsAllBy n r k left others) triples) (IsAllWithExist n triples others c) Done Done old new
      (λ d p. (r, k, subst (λ w. Eligible n w c) q el, (p.0, p.1, all_by_same n r k left others beside others s' (same_set_refl others) p.0 d p.2)))
      (λ h d p.
      let b : At (Exist r k) d = subst (λ w. At w d) (only (Exist p.0 p.1) p.2 ∙ q) p.3 in
      (b.0, b.1, all_by_same n r k beside others left others (s'.1, s'.0) (same_set_refl others) b.0 d b.2))
      (λ h. h) a
    where
      At : Elem → List Elem → Type 0
      At (Plain a) d = ⊥
      At (Exist r k) d = ByOne (IsAllBy n r k (rest (Exist r k) c) others) triples d

module _ (n : Normal) (r : ℕ) (k : List ℕ) (others c : List Elem) where
  -- the eligible element is an existential, and gives nothing
  pub exist_instead : (x : Elem) (s : ℕ) (l : List ℕ) → ((f : Elem) → Eligible n f c → f ≡ x) → x ≡ Exist s l → (d : List Elem) → IsAllWithAtom n r k others c d → ⊥
  exist_instead x s l only q d p = not_both p.0.atom s l (sym (only (Plain p.0.atom) p.2 ∙ q))

  -- the eligible element is an atom
  module _ (x : Elem) (a : ℕ) (triples : List Triple) (only : (f : Elem) → Eligible n f c → f ≡ x) (q : x ≡ Plain a) (at : AreAtAtom n.n4 a triples) where
    is_atom : (t : Triple) → Eligible n (Plain t.atom) c → t.atom ≡ a
    is_atom t el = same_atom t.atom a (only (Plain t.atom) el ∙ q)

    -- without axioms it gives nothing
    pub no_axioms : length triples ≡ 0 → (d : List Elem) → IsAllWithAtom n r k others c d → ⊥
    no_axioms z d p = none_in triples z p.0 ((at p.0).1 (p.1, is_atom p.0 p.2))

    -- and else what its axioms do, with the clause without it
    pub with_atom : (right : List Elem) {Done : Type 0} {old new : List (List Elem)} → Eligible n x c → SameSet right (rest x c)
        → Appends Among (ByOne (IsAllBy n r k others right) triples) Done old new → Appends Among (IsAllWithAtom n r k others c) Done old new
    with_atom right {Done = Done} {old = old} {new = new} el s b =
        otherwise (ByOne (IsAllBy n r k others right) triples) (IsAllWithAtom n r k others c) Done Done old new
        (λ d p.
        let m = (at p.0).0 p.1 in
        let e : x ≡ Plain p.0.atom = q ∙ ap Plain (sym m.1) in
        (p.0, m.0, subst (λ w. Eligible n w c) e el, all_by_same n r k others right others (rest (Plain p.0.atom) c) (same_set_refl others) (subst (λ w. SameSet right (rest w c)) e s) p.0 d p.2))
        (λ h d p.
        let e : x ≡ Plain p.0.atom = sym (only (Plain p.0.atom) p.2) in
        let s' : SameSet right (rest (Plain p.0.atom) c) = subst (λ w. SameSet right (rest w c)) e s in
        (p.0, (at p.0).1 (p.1, is_atom p.0 p.2), all_by_same n r k others (rest (Plain p.0.atom) c) others right (same_set_refl others) (s'.1, s'.0) p.0 d p.3))
        (λ h. h) b

-- for an atom, with the existentials of all clauses
module _ (n : Normal) (a : ℕ) (triples : List Triple) (others : List Elem) (clauses : List (List Elem)) (choices : List ℕ) (at : AreAtAtom n.n4 a triples) where
  pub to_all_of_atom : (d : List Elem) → ByOne (IsAllWithExist n triples others) (picked clauses choices) d → IsAllOfAtom n (IsPicked clauses choices) a others d
  to_all_of_atom d (c, m, (r, k, el, (t, mt, (under, s)))) = let w = (at t).0 mt in (t, w.0, w.1, (c, m, (r, k, el, under, s)))

  pub of_all_of_atom : (d : List Elem) → IsAllOfAtom n (IsPicked clauses choices) a others d → ByOne (IsAllWithExist n triples others) (picked clauses choices) d
  of_all_of_atom d (t, mt, q, (c, m, (r, k, el, under, s))) = (c, m, (r, k, el, (t, (at t).1 (mt, q), (under, s))))

  pub none_of_atom : length triples ≡ 0 → (d : List Elem) → IsAllOfAtom n (IsPicked clauses choices) a others d → ⊥
  none_of_atom z d p = none_in triples z p.0 ((at p.0).1 (p.1, p.2))

-- for an existential, with the atoms of all clauses
module _ (n : Normal) (r : ℕ) (k : List ℕ) (others : List Elem) (clauses : List (List Elem)) (choices : List ℕ) where
  pub to_all_of_exist : (d : List Elem) → ByOne (IsAllWithAtom n r k others) (picked clauses choices) d → IsAllOfExist n (IsPicked clauses choices) r k others d
  to_all_of_exist d (c, m, (t, mt, el, (under, s))) = (t, mt, under, (c, m, el, s))

  pub of_all_of_exist : (d : List Elem) → IsAllOfExist n (IsPicked clauses choices) r k others d → ByOne (IsAllWithAtom n r k others) (picked clauses choices) d
  of_all_of_exist d (t, mt, under, (c, m, el, s)) = (c, m, (t, mt, el, (under, s)))
