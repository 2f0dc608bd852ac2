-- Where enough clauses stand beside a premise, each conclusion that uses it can be had from them.
use Rattle.std.proofs.Common.{◌≡◌, ◌⊎◌, ◌<◌, ℕ, List, [], ◌∷◌, length, get_or, refl, sym, ◌∙◌, subst, ap, inl, inr}
use Rattle.cd_base.specs.Lists.{OneOf}
use Rattle.cd_base.specs.declared.normal.Normal.{Normal}
use Rattle.cd_base.proofs.Members.{member_at}
use Rattle.cd_clause.specs.declared.elem.Elem.{Elem}
use Rattle.cd_clause.specs.declared.elem.Elem.TheVariants.{Plain, Exist}
use Rattle.cd_clause.specs.Elements.{Eligible, rest}
use Rattle.cd_clause.specs.Rules.{Rests}
use Rattle.cd_rules.specs.Elems.{IsOfElem}
use Rattle.cd_rules.specs.Facts.{IsPicked, ToldFacts}
use Rattle.cd_rules.proofs.Using.{from_clause_some, some_from_clause}
use Rattle.cd_store.proofs.Picks.{picked_in, picked_from}
use Rattle.cd_context.proofs.Besides.{left_read}
use Rattle.cd_store.specs.LookUps.{HasElem}
use Rattle.cd_context.specs.Beside.{AreEnough, AreTakenUp, IsBeside, IsBesideLeft, IsHad, Stands}

module _ (n : Normal) (clauses : List (List Elem)) (premise : ℕ) (live waiting found numbers : List ℕ)
    (range : (m : ℕ) → OneOf m live → m < length clauses) (own : premise < length clauses)
    (gained : (m : ℕ) → ((e : Elem) × Eligible n e (get_or clauses premise []) × IsBeside n (Stands live waiting premise) clauses e m) → OneOf m found)
    (kept : (m : ℕ) → OneOf m found → OneOf m live → (OneOf m waiting → ⊥) → (m ≡ premise) ⊎ OneOf m numbers) where
  module _ (taken : List ℕ) (up : AreTakenUp live waiting taken) where
    abbrev Wide : List Elem → Type 0
    Wide = IsPicked clauses (premise ∷ taken)

    abbrev Narrow : List Elem → Type 0
    Narrow = IsPicked clauses (premise ∷ numbers)

    -- a clause with an element of which all clauses were found
    pick : (c : List Elem) (e : Elem) → Wide c → OneOf e c → ((m : ℕ) → HasElem clauses e m → OneOf m found) → Narrow c
    pick c e (inl q) m h = inl q
    pick c e (inr q) m h =
        let w = picked_from clauses taken c q in
        elim (kept w.0 (h w.0 (range w.0 (up.0 w.0 w.1), subst (λ d. OneOf e d) w.2 m)) (up.0 w.0 w.1) (up.1 w.0 w.1)) [
          | inl s ↦ inl (w.2 ∙ ap (λ i. get_or clauses i []) s)
          | inr i ↦ inr (subst (λ d. IsPicked clauses numbers d) (sym w.2) (picked_in clauses numbers w.0 i))
        ]

    -- what stands in a clause is had
    some_had : (c : List Elem) (a : ℕ) → Wide c → OneOf (Plain a) c → IsHad (Stands live waiting premise) clauses (Plain a)
    some_had c a (inl q) m = (premise, inl refl, (own, subst (λ d. OneOf (Plain a) d) q m))
    some_had c a (inr q) m = let w = picked_from clauses taken c q in (w.0, inr (up.0 w.0 w.1, up.1 w.0 w.1), (range w.0 (up.0 w.0 w.1), subst (λ d. OneOf (Plain a) d) w.2 m))

    rests_had : (left : List ℕ) (m : List Elem) → Rests n Wide left m → (b : ℕ) → OneOf b left → IsHad (Stands live waiting premise) clauses (Plain b)
    rests_had [] m r b i = absurd i
    rests_had (a ∷ left) m r b (inl e) = subst (λ (z : ℕ). IsHad (Stands live waiting premise) clauses (Plain z)) (sym e) (some_had r.0 a r.1 r.2.isin)
    rests_had (a ∷ left) m r b (inr i) = rests_had left r.3.tail r.3.rests b i

    rests_narrow : (left : List ℕ) (m : List Elem) → ((b : ℕ) → OneOf b left → (k : ℕ) → HasElem clauses (Plain b) k → OneOf k found) → Rests n Wide left m → Rests n Narrow left m
    rests_narrow [] m h r = r
    rests_narrow (a ∷ left) m h r = (
      r.0,
      pick r.0 (Plain a) r.1 r.2.isin (h a (inl refl)),
      r.2,
      record { tail = r.3.tail; rests = rests_narrow left r.3.tail (λ b i. h b (inr i)) r.3.rests; is = r.3.is },
    )

    module _ (told : ToldFacts) (key : List ℕ) (d : List Elem) where
      narrow : (e : Elem) → Eligible n e (get_or clauses premise []) → (others : List Elem) → IsOfElem n key Wide told e others d → IsOfElem n key Narrow told e others d
      narrow (Plain a) el others (inl q) = inl q
      narrow (Plain a) el others (inr (inl q)) = inr (inl q)
      narrow (Plain a) el others (inr (inr (inl q))) =
          let x = q.0 in
          let taken_out = q.2 in
          let at = member_at x n.n1 q.1 in
          let is = left_read n.n1 at.0 x at.1 (sym (at.2 x)) in
          let all = rests_had taken_out.0 taken_out.2.0 taken_out.2.1 in
          inr (inr (inl (
            x,
            q.1,
            (
              taken_out.0,
              taken_out.1,
              (
                taken_out.2.0,
                rests_narrow taken_out.0 taken_out.2.0
                    (λ b i k u. gained k (Plain a, el, inl (at.0, at.1, subst (λ l. IsBesideLeft (Stands live waiting premise) clauses a l k) (sym is) (taken_out.0, taken_out.1, all, (b, i, u)))))
                    taken_out.2.1,
                taken_out.2.2,
              ),
            ),
          )))
      narrow (Plain a) el others (inr (inr (inr q))) =
          let c = q.3.0 in
          let z = q.3.2 in
          inr (inr (inr (
            q.0,
            q.1,
            q.2,
            (c, pick c (Exist z.0 z.1) q.3.1 z.2.isin (λ m u. gained m (Plain a, el, inr ((q.0, q.1, q.2), (z.0, z.1, u)))), z),
          )))
      narrow (Exist r k) el others (inl q) = inl q
      narrow (Exist r k) el others (inr (inl q)) = inr (inl q)
      narrow (Exist r k) el others (inr (inr (inl q))) = inr (inr (inl q))
      narrow (Exist r k) el others (inr (inr (inr q))) =
          let b = q.3.0 in
          inr (inr (inr (
            q.0,
            q.1,
            q.2,
            (b, pick b (Plain q.0.atom) q.3.1 q.3.2.isin (λ m u. gained m (Exist r k, el, (q.0, q.1, u))), q.3.2, q.3.3),
          )))

  pub enough : AreEnough n clauses live waiting premise numbers
  enough taken up key told d q =
      let s = from_clause_some n key clauses taken premise told d q in
      some_from_clause n key clauses numbers premise told d
      (s.0, s.1, narrow taken up told key d s.0 s.1 (rest s.0 (get_or clauses premise [])) s.2)
