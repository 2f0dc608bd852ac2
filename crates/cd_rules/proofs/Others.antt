-- What a rule concludes depends only on which elements the rest of its premise has.
use Rattle.std.proofs.Common.{ℕ, List, [], ◌∷◌, ◌++◌, map, inl, inr}
use Rattle.cd_base.specs.Lists.{SameSet}
use Rattle.cd_base.specs.Keys.{plain, negated, key_with}
use Rattle.cd_base.specs.declared.normal.Normal.{Normal}
use Rattle.cd_clause.specs.Elements.{rest}
use Rattle.cd_clause.specs.declared.elem.Elem.{Elem}
use Rattle.cd_clause.specs.declared.elem.Elem.TheVariants.{Plain, Exist}
use Rattle.cd_rules.specs.Facts.{ToldFacts}
use Rattle.cd_rules.specs.Elems.{IsOfElem}
use Rattle.cd_rules.specs.Steps.{IsNeg, IsEx, IsCon, IsAllOfAtom, IsAllOfExist, IsBackFrom, IsSureFrom, IsDeadFrom}
use Rattle.cd_rules.proofs.SameSets.{same_set_refl, same_set_trans, same_set_cons, same_set_append}

module _ (n : Normal) (key : List ℕ) (Has : List Elem → Type 0) (facts : ToldFacts) (m w : List Elem) (s : SameSet m w) (d : List Elem) where
  neg_same : (a : ℕ) → IsNeg key a m d → IsNeg key a w d
  neg_same a p = (p.0, same_set_trans d m w p.1 s)

  ex_same : (a : ℕ) → IsEx n a m d → IsEx n a w d
  ex_same a p =
      let e = Exist p.0.role (plain p.0.other ∷ []) in
      (p.0, p.1, p.2, same_set_trans d (e ∷ m) (e ∷ w) p.3 (same_set_cons e m w s))

  con_same : (a : ℕ) → IsCon n Has a m d → IsCon n Has a w d
  con_same a p =
      let right = map Plain p.0.right in
      let b = p.2 in
      let u = b.2.0 in
      let t = same_set_append (m ++ u) right (w ++ u) right (same_set_append m u w u s (same_set_refl u)) (same_set_refl right) in
      (p.0, p.1, (b.0, b.1, (u, b.2.1, same_set_trans d ((m ++ u) ++ right) ((w ++ u) ++ right) b.2.2 t)))

  all_of_atom_same : (a : ℕ) → IsAllOfAtom n Has a m d → IsAllOfAtom n Has a w d
  all_of_atom_same a p =
      let c = p.3.0 in
      let q = p.3.2 in
      let e = Exist q.0 (key_with (plain p.0.other) q.1) in
      let o = rest (Exist q.0 q.1) c in
      let t = same_set_cons e (o ++ m) (o ++ w) (same_set_append o m o w (same_set_refl o) s) in
      (p.0, p.1, p.2, (c, p.3.1, (q.0, q.1, q.2, q.3, same_set_trans d (e ∷ (o ++ m)) (e ∷ (o ++ w)) q.4 t)))

  all_of_exist_same : (r : ℕ) (k : List ℕ) → IsAllOfExist n Has r k m d → IsAllOfExist n Has r k w d
  all_of_exist_same r k p =
      let b = p.3.0 in
      let e = Exist r (key_with (plain p.0.other) k) in
      let o = rest (Plain p.0.atom) b in
      let t = same_set_cons e (m ++ o) (w ++ o) (same_set_append m o w o s (same_set_refl o)) in
      (p.0, p.1, p.2, (b, p.3.1, p.3.2, same_set_trans d (e ∷ (m ++ o)) (e ∷ (w ++ o)) p.3.3 t))

  back_same : (r : ℕ) (k : List ℕ) → IsBackFrom n facts.backs r k m d → IsBackFrom n facts.backs r k w d
  back_same r k p =
      let q = p.2 in
      let b = Plain q.0.other in
      let e = Exist r (key_with (negated p.0) k) in
      let t = same_set_cons b (e ∷ m) (e ∷ w) (same_set_cons e m w s) in
      (p.0, p.1, (q.0, q.1, q.2, q.3, same_set_trans d (b ∷ e ∷ m) (b ∷ e ∷ w) q.4 t))

  sure_same : (r : ℕ) (k : List ℕ) → IsSureFrom n facts.sures r k m d → IsSureFrom n facts.sures r k w d
  sure_same r k p =
      let q = p.2 in
      let b = Plain q.0.other in
      (p.0, p.1, (q.0, q.1, q.2, q.3, same_set_trans d (b ∷ m) (b ∷ w) q.4 (same_set_cons b m w s)))

  dead_same : (r : ℕ) (k : List ℕ) → IsDeadFrom facts.deads r k m d → IsDeadFrom facts.deads r k w d
  dead_same r k p = (p.0, same_set_trans d m w p.1 s)

  -- all rules for an element
  pub of_elem_same : (e : Elem) → IsOfElem n key Has facts e m d → IsOfElem n key Has facts e w d
  of_elem_same (Plain a) (inl p) = inl (neg_same a p)
  of_elem_same (Plain a) (inr (inl p)) = inr (inl (ex_same a p))
  of_elem_same (Plain a) (inr (inr (inl p))) = inr (inr (inl (con_same a p)))
  of_elem_same (Plain a) (inr (inr (inr p))) = inr (inr (inr (all_of_atom_same a p)))
  of_elem_same (Exist r k) (inl p) = inl (back_same r k p)
  of_elem_same (Exist r k) (inr (inl p)) = inr (inl (sure_same r k p))
  of_elem_same (Exist r k) (inr (inr (inl p))) = inr (inr (inl (dead_same r k p)))
  of_elem_same (Exist r k) (inr (inr (inr p))) = inr (inr (inr (all_of_exist_same r k p)))
