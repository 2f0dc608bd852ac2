-- The eligible element of a clause: its greatest, and the only one.
use Rattle.std.proofs.Common.{◌≡◌, ℕ, ◌+◌, ◌<◌, ◌≤◌, true, false, List, [], ◌∷◌, length, get_or, refl, sym, ap, subst, inl, inr, arith}
use Rattle.std.proofs.lemmas.Bool.{cases_order}
use Rattle.std.proofs.lemmas.List.{get_or_read}
use Rattle.cd_base.specs.declared.normal.Normal.{Normal}
use Rattle.cd_base.specs.Lists.{OneOf, SameSet}
use Rattle.cd_base.proofs.Members.{member_at, member_get}
use Rattle.cd_clause.specs.Dictionary.{is_at_most}
use Rattle.cd_clause.specs.Elements.{rank, Eligible, IsGreatestAt}
use Rattle.cd_clause.specs.declared.elem.Elem.{Elem}
use Rattle.cd_clause.specs.declared.elem.Elem.TheVariants.{Plain, Exist}
use Rattle.cd_clause.proofs.Dictionary.{at_most_refl, at_most_other, at_most_trans, at_most_antisym}

-- no two elements have one rank
pub rank_apart : (n : Normal) (e f : Elem) → rank n e ≡ rank n f → e ≡ f
rank_apart n (Plain a) (Plain b) h = cc
rank_apart n (Plain a) (Exist r k) h = cc
rank_apart n (Exist r k) (Plain b) h = cc
rank_apart n (Exist r k) (Exist s l) h = cc

-- a clause has one eligible element
pub eligible_one : (n : Normal) (c : List Elem) (e f : Elem) → Eligible n e c → Eligible n f c → e ≡ f
eligible_one n c e f p q = rank_apart n e f (at_most_antisym (rank n e) (rank n f) (q.top e p.isin) (p.top f q.isin))

-- the empty clause has none
pub none_eligible : (n : Normal) (c : List Elem) (e : Elem) → c ≡ [] → Eligible n e c → ⊥
none_eligible n c e h el = subst (OneOf e) h el.isin

-- an atom is eligible in the clause of it alone
pub eligible_alone : (n : Normal) (a : ℕ) (c : List Elem) → SameSet c (Plain a ∷ []) → Eligible n (Plain a) c
eligible_alone n a c s = record {
  isin = s.1 (Plain a) (inl refl);
  top = λ f m. elim (s.0 f m) [
    | inl q ↦ subst (λ g. is_at_most (rank n g) (rank n (Plain a)) ≡ true) (sym q) (at_most_refl (rank n (Plain a)))
    | inr z ↦ absurd z
  ];
}

-- ---- the walk for the greatest

-- the element at the best place so far is at least each that was passed
pub record IsBest (n : Normal) (c : List Elem) (best passed : ℕ) : Type 0 where
  pub within : best < length c
  pub top : (k : ℕ) → k < passed → k < length c → is_at_most (rank n (get_or c k (Plain 0))) (rank n (get_or c best (Plain 0))) ≡ true

pub best_begins : (n : Normal) (c : List Elem) → 0 < length c → IsBest n c 0 0
best_begins n c l = record { within = l; top = λ k b. absurd (omega (arith, b)) }

-- one place more was passed, where the new best is at least the old one and what is at that place
passes : (n : Normal) (c : List Elem) (best i next : ℕ) → IsBest n c best i → next < length c
    → is_at_most (rank n (get_or c best (Plain 0))) (rank n (get_or c next (Plain 0))) ≡ true
    → is_at_most (rank n (get_or c i (Plain 0))) (rank n (get_or c next (Plain 0))) ≡ true → IsBest n c next (i + 1)
passes n c best i next w l old here = record {
  within = l;
  top = λ k b m. elim (cases_order k i) [
    | inl e ↦ subst (λ j. is_at_most (rank n (get_or c j (Plain 0))) (rank n (get_or c next (Plain 0))) ≡ true) (sym e) here
    | inr o ↦ elim o [
      | inl s ↦ at_most_trans (rank n (get_or c k (Plain 0))) (rank n (get_or c best (Plain 0))) (rank n (get_or c next (Plain 0))) (w.top k s m) old
      | inr s ↦ absurd (omega (arith, b, s))
    ]
  ];
}

-- the element x at place i is at least the best one y: it is the best
pub best_changes : (n : Normal) (c es : List Elem) (best i : ℕ) (x y : Elem) → es ≡ c → IsBest n c best i → i < length es
    → y ≡ get_or es best y → x ≡ get_or es i x → is_at_most (rank n y) (rank n x) ≡ true → IsBest n c i (i + 1)
best_changes n c es best i x y e w l yb xi t =
    let within : i < length c = subst (λ z. i < length z) e l in
    let here : x ≡ get_or c i (Plain 0) = get_or_read c i x within (subst (λ z. x ≡ get_or z i x) e xi) (Plain 0) in
    let there : y ≡ get_or c best (Plain 0) = get_or_read c best y w.within (subst (λ z. y ≡ get_or z best y) e yb) (Plain 0) in
    passes n c best i i w within
    (subst (λ z. is_at_most (rank n z) (rank n (get_or c i (Plain 0))) ≡ true) there (subst (λ z. is_at_most (rank n y) (rank n z) ≡ true) here t))
    (at_most_refl (rank n (get_or c i (Plain 0))))

-- it isn't: the best one stays
pub best_stays : (n : Normal) (c es : List Elem) (best i : ℕ) (x y : Elem) → es ≡ c → IsBest n c best i → i < length es
    → y ≡ get_or es best y → x ≡ get_or es i x → is_at_most (rank n y) (rank n x) ≡ false → IsBest n c best (i + 1)
best_stays n c es best i x y e w l yb xi t =
    let within : i < length c = subst (λ z. i < length z) e l in
    let here : x ≡ get_or c i (Plain 0) = get_or_read c i x within (subst (λ z. x ≡ get_or z i x) e xi) (Plain 0) in
    let there : y ≡ get_or c best (Plain 0) = get_or_read c best y w.within (subst (λ z. y ≡ get_or z best y) e yb) (Plain 0) in
    passes n c best i best w w.within (at_most_refl (rank n (get_or c best (Plain 0))))
    (subst (λ z. is_at_most (rank n (get_or c i (Plain 0))) (rank n z) ≡ true) there
    (subst (λ z. is_at_most (rank n z) (rank n y) ≡ true) here (at_most_other (rank n y) (rank n x) t)))

-- all places were passed
pub best_ends : (n : Normal) (c es : List Elem) (best i : ℕ) → es ≡ c → IsBest n c best i → length es ≤ i → IsGreatestAt n c best
best_ends n c es best i e w l = record {
  within = w.within;
  eligible = record {
    isin = member_get c best (Plain 0) w.within;
    top = λ f m.
        let at = member_at f c m in
        subst (λ g. is_at_most (rank n g) (rank n (get_or c best (Plain 0))) ≡ true) (at.2 (Plain 0))
        (w.top at.0 (omega (arith, at.1, l, ap (length {A = Elem}) e)) at.1);
  };
}
