-- The elements of the canonical interpretation, its atoms and its edges.
use Rattle.std.proofs.Common.{◌≡◌, ℕ, zero, suc, ◌+◌, ◌<◌, ◌≤◌, Bool, true, false, cond, List, [], ◌∷◌, length, refl, sym, ◌∙◌, ap, subst, inl, inr, arith}
use Rattle.std.proofs.lemmas.Bool.{cond_both, both_ways, cases_eq}
use Rattle.cd_base.specs.Lists.{OneOf, collect}
use Rattle.cd_base.specs.declared.normal.Normal.{Normal}
use Rattle.cd_base.proofs.Members.{member_collect, collect_member, cond_member, member_cond}
use Rattle.cd_meaning.specs.declared.interpretation.Member.{Member as Pair}
use Rattle.cd_meaning.specs.declared.interpretation.Edge.{Edge}
use Rattle.cd_clause.specs.Dictionary.{same_numbers}
use Rattle.cd_clause.specs.declared.elem.Elem.{Elem}
use Rattle.cd_clause.specs.declared.elem.Elem.TheVariants.{Plain, Exist}
use Rattle.cd_clause.proofs.Elements.{same_numbers-true, same_numbers-refl}
use Rattle.cd_model.specs.Canonical.{Listing, chosen, has_empty, Element, elements, numbers_below, atoms_at, edges_by, canonical}
use Rattle.cd_model.proofs.Listings.{Is, Goes}

elements_good : (live : List ℕ → List (List Elem)) (from : ℕ) (keys : List (List ℕ)) (p : Element) → OneOf p (elements live from keys)
    → OneOf p.key keys × (has_empty (live p.key) ≡ false) × (from ≤ p.number) × (p.number < from + length (elements live from keys))
elements_good live from [] p m = absurd m
elements_good live from (k ∷ ks) p m =
    cond_both (has_empty (live k)) (elements live from ks) (record { number = from; key = k } ∷ elements live (suc from) ks)
    (λ l. OneOf p l → OneOf p.key (k ∷ ks) × (has_empty (live p.key) ≡ false) × (from ≤ p.number) × (p.number < from + length l))
    (λ t n. let r = elements_good live from ks p n in (inr r.0, r.1, r.2, r.3))
    (λ t n. elim n [
      | inl q ↦ (let en : p.number ≡ from = ap (λ (w : Element). w.number) q in
          let ek : p.key ≡ k = ap (λ (w : Element). w.key) q in
          (inl ek, subst (λ z. has_empty (live z) ≡ false) (sym ek) t, omega arith, omega arith))
      | inr w ↦ (let r = elements_good live (suc from) ks p w in (inr r.0, r.1, omega (arith, r.2), omega (arith, r.3)))
    ])
    m

elements_find : (live : List ℕ → List (List Elem)) (from : ℕ) (keys : List (List ℕ)) (k : List ℕ) → OneOf k keys → has_empty (live k) ≡ false
    → (p : Element) × OneOf p (elements live from keys) × (p.key ≡ k)
elements_find live from [] k m h = absurd m
elements_find live from (j ∷ ks) k m h =
    cond_both (has_empty (live j)) (elements live from ks) (record { number = from; key = j } ∷ elements live (suc from) ks)
    (λ l. (p : Element) × OneOf p l × (p.key ≡ k))
    (λ t. elim m [
      | inl q ↦ absurd (both_ways (has_empty (live j)) (subst (λ z. has_empty (live z) ≡ false) q h) t)
      | inr w ↦ elements_find live from ks k w h
    ])
    (λ t. elim m [
      | inl q ↦ (record { number = from; key = j }, inl refl, sym q)
      | inr w ↦ (let r = elements_find live (suc from) ks k w h in (r.0, inr r.1, r.2))
    ])

elements_one : (live : List ℕ → List (List Elem)) (from : ℕ) (keys : List (List ℕ)) (p q : Element) → OneOf p (elements live from keys) → OneOf q (elements live from keys) → p.number ≡ q.number → p.key ≡ q.key
elements_one live from [] p q m n e = absurd m
elements_one live from (j ∷ ks) p q m n e =
    cond_both (has_empty (live j)) (elements live from ks) (record { number = from; key = j } ∷ elements live (suc from) ks)
    (λ l. OneOf p l → OneOf q l → p.key ≡ q.key)
    (λ t m n. elements_one live from ks p q m n e)
    (λ t m n. elim m [
      | inl a ↦ elim n [
        | inl b ↦ ap (λ (w : Element). w.key) (a ∙ sym b)
        | inr b ↦ (let r = elements_good live (suc from) ks q b in let low : suc from ≤ q.number = r.2 in let z : p.number ≡ from = ap (λ (w : Element). w.number) a in absurd (omega arith))
      ]
      | inr a ↦ elim n [
        | inl b ↦ (let r = elements_good live (suc from) ks p a in let low : suc from ≤ p.number = r.2 in let z : q.number ≡ from = ap (λ (w : Element). w.number) b in absurd (omega arith))
        | inr b ↦ elements_one live (suc from) ks p q a b e
      ]
    ])
    m n

elements_all : (live : List ℕ → List (List Elem)) (from : ℕ) (keys : List (List ℕ)) (x : ℕ) → from ≤ x → x < from + length (elements live from keys)
    → (p : Element) × OneOf p (elements live from keys) × (p.number ≡ x)
elements_all live from [] x g l = absurd (omega arith)
elements_all live from (j ∷ ks) x g l =
    cond_both (has_empty (live j)) (elements live from ks) (record { number = from; key = j } ∷ elements live (suc from) ks)
    (λ w. x < from + length w → (p : Element) × OneOf p w × (p.number ≡ x))
    (λ t l. elements_all live from ks x g l)
    (λ t l. elim (cases_eq from x) [
      | inl e ↦ (record { number = from; key = j }, inl refl, e)
      | inr d ↦ (let r = elements_all live (suc from) ks x (omega arith) (omega arith) in (r.0, inr r.1, r.2))
    ])
    l

below_member : (r m : ℕ) → r < m → OneOf r (numbers_below m)
below_member r zero h = absurd (omega arith)
below_member r (suc m) h = elim (cases_eq r m) [
  | inl e ↦ inl e
  | inr d ↦ inr (below_member r m (omega arith))
]

member_atoms : (a x : ℕ) (es : List Elem) → OneOf (Plain a) es → OneOf (record { class = a; element = x }) (atoms_at x es)
member_atoms a x [] m = absurd m
member_atoms a x (Plain b ∷ es) (inl q) = let e : a ≡ b = cc in inl (ap (λ z. let w : Pair = record { class = z; element = x } in w) e)
member_atoms a x (Plain b ∷ es) (inr m) = inr (member_atoms a x es m)
member_atoms a x (Exist r k ∷ es) (inl q) = let z : Plain a ≡ Exist r k = q in cc
member_atoms a x (Exist r k ∷ es) (inr m) = member_atoms a x es m

atoms_member : (a x y : ℕ) (es : List Elem) → OneOf (record { class = a; element = y }) (atoms_at x es) → OneOf (Plain a) es × (y ≡ x)
atoms_member a x y [] m = absurd m
atoms_member a x y (Plain b ∷ es) (inl q) = (inl (ap (λ (w : Pair). Plain w.class) q), ap (λ (w : Pair). w.element) q)
atoms_member a x y (Plain b ∷ es) (inr m) = let r = atoms_member a x y es m in (inr r.0, r.1)
atoms_member a x y (Exist r k ∷ es) m = let r = atoms_member a x y es m in (inr r.0, r.1)

module _ (n : Normal) (below : ℕ → ℕ → Bool) (keys : List (List ℕ)) (live : List ℕ → List (List Elem)) where
  -- x is the element of the key
  pub record At (x : ℕ) (k : List ℕ) : Type 0 where
    pub known : OneOf k keys
    pub open_still : has_empty (live k) ≡ false
    pub listed : OneOf (record { number = x; key = k }) (elements live 0 keys)

  at_listed : (p : Element) → OneOf p (elements live 0 keys) → At p.number p.key
  at_listed p m = let r = elements_good live 0 keys p m in record { known = r.0; open_still = r.1; listed = m }

  pub at_find : (k : List ℕ) → OneOf k keys → has_empty (live k) ≡ false → (x : ℕ) × At x k
  at_find k m h = let r = elements_find live 0 keys k m h in (r.0.number, subst (At r.0.number) r.2 (at_listed r.0 r.1))

  pub at_one : (x : ℕ) (k l : List ℕ) → At x k → At x l → k ≡ l
  at_one x k l p q = elements_one live 0 keys (record { number = x; key = k }) (record { number = x; key = l }) p.listed q.listed refl

  abbrev pub Model : Listing
  Model = canonical n below keys live

  abbrev pub Ch : List ℕ → List Elem
  Ch k = chosen n (live k)

  pub at_below : (x : ℕ) (k : List ℕ) → At x k → x < Model.size
  unfolding canonical
  at_below x k p = let r = elements_good live 0 keys (record { number = x; key = k }) p.listed in omega (arith, r.3)

  pub element_at : (x : ℕ) → x < Model.size → (k : List ℕ) × At x k
  unfolding canonical
  element_at x l = let r = elements_all live 0 keys x (omega arith) (omega arith) in (r.0.key, subst (λ z. At z r.0.key) r.2 (at_listed r.0 r.1))

  pub is_from : (a x : ℕ) (k : List ℕ) → At x k → OneOf (Plain a) (Ch k) → Is Model a x
  unfolding canonical
  is_from a x k p m = member_collect (λ (q : Element). atoms_at q.number (chosen n (live q.key))) (record { number = x; key = k }) (record { class = a; element = x }) (elements live 0 keys) p.listed (member_atoms a x (Ch k) m)

  pub is_at : (a x : ℕ) → Is Model a x → (k : List ℕ) × At x k × OneOf (Plain a) (Ch k)
  unfolding canonical
  is_at a x m =
      let r = collect_member (λ (q : Element). atoms_at q.number (chosen n (live q.key))) (record { class = a; element = x }) (elements live 0 keys) m in
      let s = atoms_member a r.0.number x (Ch r.0.key) r.2 in
      (r.0.key, subst (λ z. At z r.0.key) (sym s.1) (at_listed r.0 r.1), s.0)

  -- what an edge of the role r comes from
  pub record Goal (r x y : ℕ) : Type 0 where
    pub lower : ℕ
    pub from : List ℕ
    pub to : List ℕ
    pub source : At x from
    pub target : At y to
    pub above : below lower r ≡ true
    pub picked : OneOf (Exist lower to) (Ch from)

  pub goes_from : (r x y : ℕ) → r < n.roles → Goal r x y → Goes Model r x y
  unfolding canonical
  goes_from r x y l g =
      let all : List Element = elements live 0 keys in
      let e : Edge = record { role = r; source = x; target = y } in
      member_collect (λ (p : Element). collect (edges_by below n.roles all p.number) (chosen n (live p.key))) (record { number = x; key = g.from }) e all g.source.listed
      (member_collect (edges_by below n.roles all x) (Exist g.lower g.to) e (Ch g.from) g.picked
      (member_collect (λ (p : Element). cond (same_numbers g.to p.key) (collect (λ (s : ℕ). cond (below g.lower s) (record { role = s; source = x; target = p.number } ∷ []) []) (numbers_below n.roles)) []) (record { number = y; key = g.to }) e all g.target.listed
      (member_cond (same_numbers g.to g.to) e _ (same_numbers-refl g.to)
      (member_collect (λ (s : ℕ). cond (below g.lower s) (record { role = s; source = x; target = y } ∷ []) []) r e (numbers_below n.roles) (below_member r n.roles l)
      (member_cond (below g.lower r) e _ g.above (inl refl))))))

  edge_at : (r x y : ℕ) (p : Element) → OneOf p (elements live 0 keys) → (el : Elem) → OneOf el (Ch p.key)
      → OneOf (record { role = r; source = x; target = y }) (edges_by below n.roles (elements live 0 keys) p.number el) → Goal r x y
  edge_at r x y p pm (Plain a) em m = absurd m
  edge_at r x y p pm (Exist s k) em m =
      let all : List Element = elements live 0 keys in
      let e : Edge = record { role = r; source = x; target = y } in
      let c2 = collect_member (λ (q : Element). cond (same_numbers k q.key) (collect (λ (t : ℕ). cond (below s t) (record { role = t; source = p.number; target = q.number } ∷ []) []) (numbers_below n.roles)) []) e all m in
      let c3 = cond_member (same_numbers k c2.0.key) e _ c2.2 in
      let c4 = collect_member (λ (t : ℕ). cond (below s t) (record { role = t; source = p.number; target = c2.0.number } ∷ []) []) e (numbers_below n.roles) c3.1 in
      let c5 = cond_member (below s c4.0) e _ c4.2 in
      elim c5.1 [
        | inl q ↦ (let er : r ≡ c4.0 = ap (λ (w : Edge). w.role) q in
            let ex : x ≡ p.number = ap (λ (w : Edge). w.source) q in
            let ey : y ≡ c2.0.number = ap (λ (w : Edge). w.target) q in
            let ek : k ≡ c2.0.key = same_numbers-true k c2.0.key c3.0 in
            record {
              lower = s;
              from = p.key;
              to = k;
              source = subst (λ z. At z p.key) (sym ex) (at_listed p pm);
              target = subst (λ z. At z k) (sym ey) (subst (At c2.0.number) (sym ek) (at_listed c2.0 c2.1));
              above = subst (λ z. below s z ≡ true) (sym er) c5.0;
              picked = em;
            })
        | inr z ↦ absurd z
      ]

  pub goes_at : (r x y : ℕ) → Goes Model r x y → Goal r x y
  unfolding canonical
  goes_at r x y m =
      let all : List Element = elements live 0 keys in
      let e : Edge = record { role = r; source = x; target = y } in
      let d1 = collect_member (λ (p : Element). collect (edges_by below n.roles all p.number) (chosen n (live p.key))) e all m in
      let d2 = collect_member (edges_by below n.roles all d1.0.number) e (Ch d1.0.key) d1.2 in
      edge_at r x y d1.0 d1.1 d2.0 d2.1 d2.2
