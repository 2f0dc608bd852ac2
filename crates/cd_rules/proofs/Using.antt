-- A conclusion uses a premise exactly where a rule has it for an eligible element of the premise.
use Rattle.std.proofs.Common.{◌≡◌, ℕ, List, [], ◌∷◌, ◌++◌, map, slice_index_or, refl, sym, ◌∙◌, ap, subst, inl, inr}
use Rattle.cd_base.specs.Lists.{SameSet}
use Rattle.cd_base.specs.Keys.{plain, negated, key_with}
use Rattle.cd_base.specs.declared.normal.Normal.{Normal}
use Rattle.cd_clause.specs.declared.elem.Elem.{Elem}
use Rattle.cd_clause.specs.declared.elem.Elem.TheVariants.{Plain, Exist}
use Rattle.cd_clause.specs.Elements.{Eligible, rest}
use Rattle.cd_clause.specs.Rules.{Rests, by_init, by_neg, by_con, by_ex, by_back, by_sure, by_dead, by_all}
use Rattle.cd_rules.specs.Facts.{IsBack, IsSure, IsPicked, ToldFacts, told_from, ConcludesFrom}
use Rattle.cd_rules.specs.Elems.{IsOfElem}
use Rattle.cd_rules.specs.Steps.{IsWithoutOne, IsOfAtom, IsOfExist}
use Rattle.cd_rules.specs.Uses.{RestsUse, Uses, FromClause}
use Rattle.cd_rules.proofs.SameSets.{same_set_refl, same_set_trans, same_set_append, same_set_swap}

-- equal lists have the same elements
same_by : (xs ys : List Elem) → xs ≡ ys → SameSet xs ys
same_by xs ys e = subst (SameSet xs) e (same_set_refl xs)

module _ (n : Normal) (Has : List Elem → Type 0) (p : List Elem) where
  -- an atom of the left side that is eligible in the clause, and the union of rests for the other atoms
  record Taken (left : List ℕ) (m : List Elem) : Type 0 where
    atom : ℕ
    eligible : Eligible n (Plain atom) p
    taken : List ℕ
    without : IsWithoutOne atom left taken
    union : List Elem
    rests : Rests n Has taken union
    same : SameSet m (rest (Plain atom) p ++ union)

  -- where the clause is used at some atom, that atom is taken out
  take_out : (left : List ℕ) (m : List Elem) (r : Rests n Has left m) → RestsUse n Has left m r p → Taken left m
  take_out [] m r u = absurd u
  take_out (a ∷ left) m r (inl e) = record {
    atom = a;
    eligible = subst (Eligible n (Plain a)) e r.2;
    taken = left;
    without = ([], left, refl, refl);
    union = r.3.tail;
    rests = r.3.rests;
    same = same_by m (rest (Plain a) p ++ r.3.tail) (r.3.is ∙ ap (λ w. rest (Plain a) w ++ r.3.tail) e);
  }
  take_out (a ∷ left) m r (inr u) =
      let t = take_out left r.3.tail r.3.rests u in
      let o = rest (Plain a) r.0 in
      let own = rest (Plain t.atom) p in
      record {
        atom = t.atom;
        eligible = t.eligible;
        taken = a ∷ t.taken;
        without = (a ∷ t.without.0, t.without.1, ap (λ w. a ∷ w) t.without.2, ap (λ w. a ∷ w) t.without.3);
        union = o ++ t.union;
        rests = (r.0, r.1, r.2, record { tail = t.union; rests = t.rests; is = refl });
        same = same_set_trans m (o ++ r.3.tail) (own ++ (o ++ t.union)) (same_by m (o ++ r.3.tail) r.3.is)
            (same_set_trans (o ++ r.3.tail) (o ++ (own ++ t.union)) (own ++ (o ++ t.union))
            (same_set_append o r.3.tail o (own ++ t.union) (same_set_refl o) t.same)
            (same_set_swap o own t.union));
      }

  -- rests for all atoms of a left side, that for one of them from the clause
  record Put (a : ℕ) (left : List ℕ) (m : List Elem) : Type 0 where
    union : List Elem
    rests : Rests n Has left union
    uses : RestsUse n Has left union rests p
    same : SameSet union (rest (Plain a) p ++ m)

  -- the clause is used at one more atom
  put_at : (a : ℕ) → Has p → Eligible n (Plain a) p → (before after : List ℕ) (m : List Elem) → Rests n Has (before ++ after) m → Put a (before ++ (a ∷ after)) m
  put_at a h e [] after m r = record {
    union = rest (Plain a) p ++ m;
    rests = (p, h, e, record { tail = m; rests = r; is = refl });
    uses = inl refl;
    same = same_set_refl (rest (Plain a) p ++ m);
  }
  put_at a h e (b ∷ before) after m r =
      let t = put_at a h e before after r.3.tail r.3.rests in
      let o = rest (Plain b) r.0 in
      let own = rest (Plain a) p in
      record {
        union = o ++ t.union;
        rests = (r.0, r.1, r.2, record { tail = t.union; rests = t.rests; is = refl });
        uses = inr t.uses;
        same = same_set_trans (o ++ t.union) (o ++ (own ++ r.3.tail)) (own ++ m)
            (same_set_append o t.union o (own ++ r.3.tail) (same_set_refl o) t.same)
            (subst (λ w. SameSet (o ++ (own ++ r.3.tail)) (own ++ w)) (sym r.3.is) (same_set_swap o own r.3.tail));
      }

  -- the same at any place of a left side
  put : (a : ℕ) (left taken : List ℕ) (m : List Elem) → Has p → Eligible n (Plain a) p → IsWithoutOne a left taken → Rests n Has taken m → Put a left m
  put a left taken m h e w r = subst (λ l. Put a l m) (sym w.2) (put_at a h e w.0 w.1 m (subst (λ l. Rests n Has l m) w.3 r))

module _ (n : Normal) (key : List ℕ) (Has : List Elem → Type 0) (facts : ToldFacts) (p d : List Elem) where
  -- some rule has the conclusion for an eligible element of the clause
  abbrev pub IsOfSome : Type 0
  IsOfSome = (e : Elem) × Eligible n e p × IsOfElem n key Has facts e (rest e p) d

  -- each conclusion that uses the clause, by its rule
  of_some : (q : ConcludesFrom n key Has facts d) → Uses n key Has (told_from facts) d q p → IsOfSome
  of_some (by_init a m s) u = absurd u
  of_some (by_neg a c h e m s) u = (Plain a, subst (Eligible n (Plain a)) u e, inl (m, subst (λ w. SameSet d (rest (Plain a) w)) u s))
  of_some (by_con x m k r s) u =
      let t = take_out n Has p x.left m r u in
      let right = map Plain x.right in
      let own = rest (Plain t.atom) p in (
        Plain t.atom,
        t.eligible,
        inr (inr (inl (
          x,
          k,
          (
            t.taken,
            t.without,
            (
              t.union,
              t.rests,
              same_set_trans d (m ++ right) ((own ++ t.union) ++ right) s (same_set_append m right (own ++ t.union) right t.same (same_set_refl right)),
            ),
          ),
        ))),
      )
  of_some (by_ex t c m h e s) u =
      (Plain t.atom, subst (Eligible n (Plain t.atom)) u e, inr (inl (t, m, refl, subst (λ w. SameSet d (Exist t.role (plain t.other ∷ []) ∷ rest (Plain t.atom) w)) u s)))
  of_some (by_back t c r k m h e b v s) u =
      (Exist r k, subst (Eligible n (Exist r k)) u e, inl (t.atom, b, (t, m, refl, v, subst (λ w. SameSet d (Plain t.other ∷ Exist r (key_with (negated t.atom) k) ∷ rest (Exist r k) w)) u s)))
  of_some (by_sure t c r k m h e b v s) u =
      (Exist r k, subst (Eligible n (Exist r k)) u e, inr (inl (t.atom, b, (t, m, refl, v, subst (λ w. SameSet d (Plain t.other ∷ rest (Exist r k) w)) u s))))
  of_some (by_dead c r k h e b s) u = (Exist r k, subst (Eligible n (Exist r k)) u e, inr (inr (inl (b, subst (λ w. SameSet d (rest (Exist r k) w)) u s))))
  of_some (by_all t c b r k m h e hb eb v s) (inl u) = (
    Exist r k,
    subst (Eligible n (Exist r k)) u e,
    inr (inr (inr (
      t,
      m,
      v,
      (
        b,
        hb,
        eb,
        subst (λ w. SameSet d (Exist r (key_with (plain t.other) k) ∷ (rest (Exist r k) w ++ rest (Plain t.atom) b))) u s,
      ),
    ))),
  )
  of_some (by_all t c b r k m h e hb eb v s) (inr u) = (
    Plain t.atom,
    subst (Eligible n (Plain t.atom)) u eb,
    inr (inr (inr (
      t,
      m,
      refl,
      (
        c,
        h,
        (
          r,
          k,
          e,
          v,
          subst (λ w. SameSet d (Exist r (key_with (plain t.other) k) ∷ (rest (Exist r k) c ++ rest (Plain t.atom) w))) u s,
        ),
      ),
    ))),
  )

  -- the conclusion of a rule, and that it uses the clause
  abbrev pub IsFrom : Type 0
  IsFrom = (q : ConcludesFrom n key Has facts d) × Uses n key Has (told_from facts) d q p

  -- the rules for an atom, one by one
  from_atom : (a : ℕ) → Has p → Eligible n (Plain a) p → IsOfAtom n key Has a (rest (Plain a) p) d → IsFrom
  from_atom a h e (inl q) = (by_neg a p h e q.0 q.1, refl)
  from_atom a h e (inr (inl q)) =
      let t = q.0 in
      (by_ex t p q.1 h (subst (λ w. Eligible n (Plain w) p) (sym q.2) e) (subst (λ w. SameSet d (Exist t.role (plain t.other ∷ []) ∷ rest (Plain w) p)) (sym q.2) q.3), refl)
  from_atom a h e (inr (inr (inl q))) =
      let x = q.0 in
      let w = q.2 in
      let own = rest (Plain a) p in
      let right = map Plain x.right in
      let t = put n Has p a x.left w.0 w.2.0 h e w.1 w.2.1 in (
        by_con x t.union q.1 t.rests
            (same_set_trans d ((own ++ w.2.0) ++ right) (t.union ++ right) w.2.2
            (same_set_append (own ++ w.2.0) right t.union right (t.same.1, t.same.0) (same_set_refl right))),
        t.uses,
      )
  from_atom a h e (inr (inr (inr q))) =
      let t = q.0 in
      let c = q.3.0 in
      let z = q.3.2 in (
        by_all t c p z.0 z.1 q.1 q.3.1 z.2 h (subst (λ w. Eligible n (Plain w) p) (sym q.2) e) z.3
            (subst (λ w. SameSet d (Exist z.0 (key_with (plain t.other) z.1) ∷ (rest (Exist z.0 z.1) c ++ rest (Plain w) p))) (sym q.2) z.4),
        inr refl,
      )

  -- the rules for an existential, one by one
  from_exist : (r : ℕ) (k : List ℕ) → Has p → Eligible n (Exist r k) p → IsOfExist n Has facts r k (rest (Exist r k) p) d → IsFrom
  from_exist r k h e (inl q) =
      let z = q.2 in
      let t = z.0 in (
        by_back t p r k z.1 h e (subst (IsBack facts.backs r k) (sym z.2) q.1) z.3
            (subst (λ w. SameSet d (Plain t.other ∷ Exist r (key_with (negated w) k) ∷ rest (Exist r k) p)) (sym z.2) z.4),
        refl,
      )
  from_exist r k h e (inr (inl q)) =
      let z = q.2 in
      let t = z.0 in
      (by_sure t p r k z.1 h e (subst (IsSure facts.sures r k) (sym z.2) q.1) z.3 z.4, refl)
  from_exist r k h e (inr (inr (inl q))) = (by_dead p r k h e q.0 q.1, refl)
  from_exist r k h e (inr (inr (inr q))) = (by_all q.0 p q.3.0 r k q.1 h e q.3.1 q.3.2 q.2 q.3.3, inl refl)

  from_elem : (e : Elem) → Has p → Eligible n e p → IsOfElem n key Has facts e (rest e p) d → IsFrom
  from_elem (Plain a) h e q = from_atom a h e q
  from_elem (Exist r k) h e q = from_exist r k h e q

-- what is concluded from a premise comes from one of its eligible elements
pub from_clause_some : (n : Normal) (key : List ℕ) (clauses : List (List Elem)) (live : List ℕ) (premise : ℕ) (facts : ToldFacts) (d : List Elem)
    → FromClause n key clauses live premise facts d → IsOfSome n key (IsPicked clauses (premise ∷ live)) facts (slice_index_or clauses premise []) d
from_clause_some n key clauses live premise facts d f = of_some n key (IsPicked clauses (premise ∷ live)) facts (slice_index_or clauses premise []) d f.0 f.1

-- what comes from an eligible element of a premise is concluded from it
pub some_from_clause : (n : Normal) (key : List ℕ) (clauses : List (List Elem)) (live : List ℕ) (premise : ℕ) (facts : ToldFacts) (d : List Elem)
    → IsOfSome n key (IsPicked clauses (premise ∷ live)) facts (slice_index_or clauses premise []) d → FromClause n key clauses live premise facts d
some_from_clause n key clauses live premise facts d q =
    let f = from_elem n key (IsPicked clauses (premise ∷ live)) facts (slice_index_or clauses premise []) d q.0 (inl refl) q.1 q.2 in
    (f.0, f.1)
