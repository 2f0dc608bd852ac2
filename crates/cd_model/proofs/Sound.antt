-- What is derived is true.
use Rattle.std.proofs.Common.{◌≡◌, true, ℕ, ◌<◌, ◌⊎◌, List, [], ◌∷◌, ◌++◌, map, refl, sym, ap, subst, inl, inr, arith}
use Rattle.std.proofs.lemmas.Bool.{both_ways}
use Rattle.cd_base.specs.Lists.{OneOf, Within}
use Rattle.cd_base.specs.Keys.{plain, negated, key_with}
use Rattle.cd_base.specs.Normal.{Under, same, step}
use Rattle.cd_base.specs.declared.normal.Normal.{Normal}
use Rattle.cd_base.specs.declared.normal.Conj.{Conj}
use Rattle.cd_base.specs.declared.normal.Triple.{Triple}
use Rattle.cd_base.specs.declared.normal.RolePair.{RolePair}
use Rattle.cd_base.proofs.Keys.{key_with_cases}
use Rattle.cd_base.proofs.Members.{member_left, member_right, member_map, any_member, all_by_member, true_or_false}
use Rattle.cd_meaning.specs.declared.interpretation.Interpretation.{Interpretation}
use Rattle.cd_meaning.specs.Truth.{has_edge}
use Rattle.cd_meaning.specs.NormalAxioms.{NormalAxiom, in_atom, IsNormalModel}
use Rattle.cd_meaning.proofs.Edges.{target_within}
use Rattle.cd_clause.specs.declared.elem.Elem.{Elem}
use Rattle.cd_clause.specs.declared.elem.Elem.TheVariants.{Plain, Exist}
use Rattle.cd_clause.specs.Elements.{rest}
use Rattle.cd_clause.specs.Rules.{Rests, Told, Concludes, told_by, by_init, by_neg, by_con, by_ex, by_back, by_sure, by_dead, by_all}
use Rattle.cd_clause.specs.Derivations.{Entry, Listed, Derivation}
use Rattle.cd_clause.proofs.Elements.{elem_cases, member_rest}
use Rattle.cd_model.specs.Meaning.{IsIn, Meets, TrueElem, TrueClause}
use Rattle.cd_model.specs.Soundness.{Soundness}

abbrev HasEdge : Interpretation → ℕ → ℕ → ℕ → Type 0
HasEdge i r x y = has_edge i r x y ≡ true

-- What a model of the normal axioms gives, form by form.
record Gives (n : Normal) (i : Interpretation) : Type 0 where
  n1 : (c : Conj) → OneOf c n.n1 → (x : ℕ) → x < i.size → ((a : ℕ) → OneOf a c.left → IsIn i a x) → (b : ℕ) × OneOf b c.right × IsIn i b x
  n2 : (t : Triple) → OneOf t n.n2 → (x : ℕ) → x < i.size → IsIn i t.atom x → (y : ℕ) × HasEdge i t.role x y × IsIn i t.other y
  n3 : (t : Triple) → OneOf t n.n3 → (x y : ℕ) → HasEdge i t.role x y → IsIn i t.atom y → IsIn i t.other x
  n4 : (t : Triple) → OneOf t n.n4 → (x y : ℕ) → IsIn i t.atom x → HasEdge i t.role x y → IsIn i t.other y
  n5 : (p : RolePair) → OneOf p n.n5 → (x y : ℕ) → HasEdge i p.lower x y → HasEdge i p.higher x y

gives : (n : Normal) (i : Interpretation) → IsNormalModel n i → Gives n i
gives n i h = record {
  n1 = λ c m x l w. any_member (λ a. in_atom i a x) c.right (h (NormalAxiom.n1 c) m x l (all_by_member (λ a. in_atom i a x) c.left w));
  n2 = λ t m x l w. h (NormalAxiom.n2 t) m x l w;
  n3 = λ t m x y g w. h (NormalAxiom.n3 t) m x y g w;
  n4 = λ t m x y w g. h (NormalAxiom.n4 t) m x y g w;
  n5 = λ p m x y g. h (NormalAxiom.n5 p) m x y g;
}

-- a clause of the atom alone is true by the atom
single_true : (i : Interpretation) (a : ℕ) (c : List Elem) → Within c (Plain a ∷ []) → (x : ℕ) → TrueClause i x c → IsIn i a x
single_true i a c w x t = elim (w t.0 t.1) [ inl q ↦ subst (TrueElem i x) q t.2 | inr z ↦ absurd z ]

module _ (n : Normal) (i : Interpretation) (holds : Gives n i) where
  -- every edge of a role is one of each role above it
  goes_up : {r s : ℕ} (u : Under n.n5 r s) (x y : ℕ) → HasEdge i r x y → HasEdge i s x y
  goes_up same x y g = g
  goes_up (step p u m e) x y g = subst (λ t. HasEdge i t x y) e (holds.n5 p m x y (goes_up u x y g))

  -- a clause is true by the element or by the rest
  split : (x : ℕ) (e : Elem) (c : List Elem) → TrueClause i x c → TrueElem i x e ⊎ TrueClause i x (rest e c)
  split x e c t = elim (elem_cases e t.0) [
    | inl q ↦ inl (subst (TrueElem i x) (sym q) t.2)
    | inr d ↦ inr (t.0, member_rest e t.0 c t.1 d, t.2)
  ]

  wider : (x : ℕ) (c d : List Elem) → Within c d → TrueClause i x c → TrueClause i x d
  wider x c d w t = (t.0, w t.0 t.1, t.2)

  -- the premises of Con
  all_or_rest : (x : ℕ) (Has : List Elem → Type 0) → ((c : List Elem) → Has c → TrueClause i x c) → (left : List ℕ) (m : List Elem) → Rests n Has left m → ((a : ℕ) → OneOf a left → IsIn i a x) ⊎ TrueClause i x m
  all_or_rest x Has h [] m r = inl (λ a k. absurd k)
  all_or_rest x Has h (b ∷ left) m (c, had, top, r) =
      elim (split x (Plain b) c (h c had)) [
        | inl t ↦ elim (all_or_rest x Has h left r.tail r.rests) [
          | inl w ↦ inl (λ a k. elim k [ inl e ↦ subst (λ z. IsIn i z x) (sym e) t | inr q ↦ w a q ])
          | inr u ↦ inr (subst (TrueClause i x) (sym r.is) (wider x r.tail (rest (Plain b) c ++ r.tail) (λ f q. member_right f (rest (Plain b) c) r.tail q) u))
        ]
        | inr u ↦ inr (subst (TrueClause i x) (sym r.is) (wider x (rest (Plain b) c) (rest (Plain b) c ++ r.tail) (λ f q. member_left f (rest (Plain b) c) r.tail q) u))
      ]

  meets_negated : (y a : ℕ) (k : List ℕ) → Meets i y k → (IsIn i a y → ⊥) → Meets i y (key_with (negated a) k)
  meets_negated y a k m d = record {
    plains = λ b q. elim (key_with_cases (negated a) (plain b) k q) [ inl e ↦ absurd (omega arith) | inr w ↦ m.plains b w ];
    negateds = λ b q t. elim (key_with_cases (negated a) (negated b) k q) [ inl e ↦ (let s : b ≡ a = omega arith in d (subst (λ z. IsIn i z y) s t)) | inr w ↦ m.negateds b w t ];
  }

  meets_plain : (y a : ℕ) (k : List ℕ) → Meets i y k → IsIn i a y → Meets i y (key_with (plain a) k)
  meets_plain y a k m d = record {
    plains = λ b q. elim (key_with_cases (plain a) (plain b) k q) [ inl e ↦ (let s : a ≡ b = omega arith in subst (λ z. IsIn i z y) s d) | inr w ↦ m.plains b w ];
    negateds = λ b q t. elim (key_with_cases (plain a) (negated b) k q) [ inl e ↦ absurd (omega arith) | inr w ↦ m.negateds b w t ];
  }

  meets_single : (y a : ℕ) → IsIn i a y → Meets i y (plain a ∷ [])
  meets_single y a d = record {
    plains = λ b q. elim q [ inl e ↦ (let s : a ≡ b = omega arith in subst (λ z. IsIn i z y) s d) | inr w ↦ absurd w ];
    negateds = λ b q t. elim q [ inl e ↦ absurd (omega arith) | inr w ↦ absurd w ];
  }

  rest_to : (x : ℕ) (e g : Elem) (c d : List Elem) → Within (g ∷ rest e c) d → TrueClause i x (rest e c) → TrueClause i x d
  rest_to x e g c d w t = (t.0, w t.0 (inr t.1), t.2)

  concludes_true : (key : List ℕ) (Has : List Elem → Type 0) (told : Told) (d : List Elem)
      → ((c : List Elem) → Has c → (x : ℕ) → x < i.size → Meets i x key → TrueClause i x c)
      → ((r : ℕ) (k : List ℕ) (a : ℕ) → told.sure r k a → (y : ℕ) → y < i.size → Meets i y k → IsIn i a y)
      → ((r : ℕ) (k : List ℕ) → told.dead r k → (y : ℕ) → y < i.size → Meets i y k → ⊥)
      → Concludes n key Has told d → (x : ℕ) → x < i.size → Meets i x key → TrueClause i x d
  concludes_true key Has told d had sure dead (by_init a m s) x l t = (Plain a, s.1 (Plain a) (inl refl), t.plains a m)
  concludes_true key Has told d had sure dead (by_neg a c h top m s) x l t =
      elim (split x (Plain a) c (had c h x l t)) [ inl u ↦ absurd (t.negateds a m u) | inr u ↦ wider x (rest (Plain a) c) d s.1 u ]
  concludes_true key Has told d had sure dead (by_con q m k r s) x l t =
      elim (all_or_rest x Has (λ c h. had c h x l t) q.left m r) [
        | inl w ↦ (let b = holds.n1 q k x l w in (Plain b.0, s.1 (Plain b.0) (member_right (Plain b.0) m (map Plain q.right) (member_map Plain b.0 q.right b.1)), b.2))
        | inr u ↦ wider x m d (λ f p. s.1 f (member_left f m (map Plain q.right) p)) u
      ]
  concludes_true key Has told d had sure dead (by_ex q c k h top s) x l t =
      elim (split x (Plain q.atom) c (had c h x l t)) [
        | inl u ↦ (let y = holds.n2 q k x l u in (Exist q.role (plain q.other ∷ []), s.1 (Exist q.role (plain q.other ∷ [])) (inl refl), (y.0, y.1, meets_single y.0 q.other y.2)))
        | inr u ↦ wider x (rest (Plain q.atom) c) d (λ f p. s.1 f (inr p)) u
      ]
  concludes_true key Has told d had sure dead (by_back q c r k m h top b u s) x l t =
      elim (split x (Exist r k) c (had c h x l t)) [
        | inl y ↦ elim (true_or_false (in_atom i q.atom y.0)) [
          | inl isa ↦ (Plain q.other, s.1 (Plain q.other) (inl refl), holds.n3 q m x y.0 (goes_up u x y.0 y.1) isa)
          | inr f ↦ (let nota : IsIn i q.atom y.0 → ⊥ = both_ways (in_atom i q.atom y.0) f in (Exist r (key_with (negated q.atom) k), s.1 (Exist r (key_with (negated q.atom) k)) (inr (inl refl)), (y.0, y.1, meets_negated y.0 q.atom k y.2 nota)))
        ]
        | inr v ↦ wider x (rest (Exist r k) c) d (λ f p. s.1 f (inr (inr p))) v
      ]
  concludes_true key Has told d had sure dead (by_sure q c r k m h top b u s) x l t =
      elim (split x (Exist r k) c (had c h x l t)) [
        | inl y ↦ (Plain q.other, s.1 (Plain q.other) (inl refl), holds.n3 q m x y.0 (goes_up u x y.0 y.1) (sure r k q.atom b y.0 (target_within i r x y.0 y.1) y.2))
        | inr v ↦ wider x (rest (Exist r k) c) d (λ f p. s.1 f (inr p)) v
      ]
  concludes_true key Has told d had sure dead (by_dead c r k h top z s) x l t =
      elim (split x (Exist r k) c (had c h x l t)) [
        | inl y ↦ absurd (dead r k z y.0 (target_within i r x y.0 y.1) y.2)
        | inr v ↦ wider x (rest (Exist r k) c) d s.1 v
      ]
  concludes_true key Has told d had sure dead (by_all q c b r k m h top hb topb u s) x l t =
      elim (split x (Exist r k) c (had c h x l t)) [
        | inl y ↦ elim (split x (Plain q.atom) b (had b hb x l t)) [
          | inl isa ↦ (Exist r (key_with (plain q.other) k), s.1 (Exist r (key_with (plain q.other) k)) (inl refl), (y.0, y.1, meets_plain y.0 q.other k y.2 (holds.n4 q m x y.0 isa (goes_up u x y.0 y.1))))
          | inr v ↦ wider x (rest (Plain q.atom) b) d (λ f p. s.1 f (inr (member_right f (rest (Exist r k) c) (rest (Plain q.atom) b) p))) v
        ]
        | inr v ↦ wider x (rest (Exist r k) c) d (λ f p. s.1 f (inr (member_left f (rest (Exist r k) c) (rest (Plain q.atom) b) p))) v
      ]

  derivation_true : (e : List Entry) → Derivation n e → (key : List ℕ) (c : List Elem) → Listed e key c → (x : ℕ) → x < i.size → Meets i x key → TrueClause i x c
  derivation_true [] v key c m x l t = absurd m
  derivation_true (p ∷ e) v key c (inr m) x l t = derivation_true e v.1 key c m x l t
  derivation_true (p ∷ e) v key c (inl q) x l t =
      let ek : key ≡ p.key = ap (λ (w : Entry). w.key) q in
      let ec : c ≡ p.clause = ap (λ (w : Entry). w.clause) q in
      let ih : (key : List ℕ) (c : List Elem) → Listed e key c → (x : ℕ) → x < i.size → Meets i x key → TrueClause i x c = derivation_true e v.1 in
      subst (TrueClause i x) (sym ec)
      (concludes_true p.key (Listed e p.key) (told_by n (Listed e)) p.clause
      (λ c h x l t. ih p.key c h x l t)
      (λ r k a z y l t. single_true i a z.0 z.2.0 y (ih k z.0 z.1 y l t))
      (λ r k z y l t. (ih k [] z y l t).1)
      v.0 x l (subst (Meets i x) ek t))

pub sound : Soundness
sound n key clause d i model x l t = derivation_true n i (gives n i model) d.entries d.derivation key clause d.listed x l t
