-- The rule Con by one axiom, over the places of an atom on the left.
use Rattle.std.proofs.Common.{◌≡◌, ℕ, zero, suc, ◌+◌, ◌-◌, ◌<◌, List, [], ◌∷◌, ◌++◌, length, take, drop, get_or, refl, sym, ◌∙◌, ap, subst, arith}
use Rattle.std.specs.List.{remove}
use Rattle.std.proofs.lemmas.Grind.{common_steps}
use Rattle.std.proofs.lemmas.List.{get_or_read}
use Rattle.cd_base.specs.declared.normal.Conj.{Conj}
use Rattle.cd_clause.specs.declared.elem.Elem.{Elem}
use Rattle.cd_base.specs.Appends.{Appends}
use Rattle.cd_rules.specs.Among.{Among}
use Rattle.cd_base.proofs.Appending.{otherwise}
use Rattle.cd_rules.specs.declared.partners.Partner.{Partner}
use Rattle.cd_rules.specs.Partners.{UnionOf, IsConFrom, IsConWith}
use Rattle.cd_rules.proofs.Counted.{HasCounted, OfBelow, count_ends, count_goes, count_leaves, count_passes, count_stops}

-- what one axiom concludes where the premise stands for place j on the left
abbrev pub OfPlace : List (List Elem) → List Partner → Conj → ℕ → List Elem → ℕ → List Elem → Type 0
OfPlace clauses partners x atom others j d = (get_or x.left j 0 ≡ atom) × IsConFrom clauses partners (remove x.left j) others x.right d

-- the atoms below a place and those after it
tail_of_drop : (atoms : List ℕ) (j : ℕ) → take (length (drop j atoms) - 1) (drop 1 (drop j atoms)) ≡ drop (suc j) atoms
tail_of_drop [] zero = refl
tail_of_drop [] (suc j) = refl
tail_of_drop (x ∷ atoms) zero = grind (arith, common_steps)
tail_of_drop (x ∷ atoms) (suc j) = tail_of_drop atoms j

pub without_place : (atoms below from taken out : List ℕ) (j : ℕ) → below ≡ take j atoms → from ≡ drop j atoms → taken ≡ below → out ≡ taken ++ take (length from - 1) (drop 1 from) → out ≡ remove atoms j
without_place atoms below from taken out j b f t e = let d = tail_of_drop atoms j in cc

split_at : (left : List ℕ) (j a : ℕ) → j < length left → get_or left j 0 ≡ a → left ≡ take j left ++ (a ∷ drop (suc j) left)
split_at [] j a l e = absurd (omega arith)
split_at (x ∷ left) zero a l e = ap (λ (w : ℕ). w ∷ left) e
split_at (x ∷ left) (suc j) a l e = ap (λ w. x ∷ w) (split_at left j a (omega arith) e)

place_before : (before after : List ℕ) (a : ℕ) → (length before < length (before ++ a ∷ after)) × (get_or (before ++ a ∷ after) (length before) 0 ≡ a) × (remove (before ++ a ∷ after) (length before) ≡ before ++ after)
place_before [] after a = (omega arith, refl, refl)
place_before (x ∷ before) after a = let r = place_before before after a in (omega (arith, r.0), r.1, ap (λ w. x ∷ w) r.2)

module _ (clauses : List (List Elem)) (partners : List Partner) (x : Conj) (atom : ℕ) (others : List Elem) where
  pub by_place : (d : List Elem) → OfBelow (OfPlace clauses partners x atom others) (length x.left) d → IsConWith clauses partners x atom others d
  by_place d q = (remove x.left q.0, (take q.0 x.left, drop (suc q.0) x.left, split_at x.left q.0 atom q.1 q.2.0, refl), q.2.1)

  pub place_by : (d : List Elem) → IsConWith clauses partners x atom others d → OfBelow (OfPlace clauses partners x atom others) (length x.left) d
  place_by d q =
      let before : List ℕ = q.1.0 in
      let after : List ℕ = q.1.1 in
      let r = place_before before after atom in
      let t : remove x.left (length before) ≡ q.0 = ap (λ w. remove w (length before)) q.1.2 ∙ r.2 ∙ sym q.1.3 in (
        length before,
        subst (λ w. length before < length w) (sym q.1.2) r.0,
        (
          subst (λ w. get_or w (length before) 0 ≡ atom) (sym q.1.2) r.1,
          (q.2.0, subst (λ w. UnionOf clauses partners w q.2.0) (sym t) q.2.1, q.2.2),
        ),
      )

  abbrev PlaceStep : ℕ → List Elem → Type 0
  PlaceStep = OfPlace clauses partners x atom others

  abbrev OfAxiom : List Elem → Type 0
  OfAxiom = IsConWith clauses partners x atom others

  module _ (j a : ℕ) (left : List ℕ) (old : List (List Elem)) (e : left ≡ x.left) (lt : j < length left) (r : a ≡ get_or left j a) where
    abbrev is_at : a ≡ get_or x.left j 0
    is_at = get_or_read left j a lt r 0 ∙ ap (λ (w : List ℕ). get_or w j 0) e

    of_place : (taken right : List ℕ) (Done : Type 0) (mid new : List (List Elem)) → right ≡ x.right → a ≡ atom → taken ≡ remove left j
        → Appends Among (IsConFrom clauses partners taken others right) Done mid new → Appends Among (PlaceStep j) Done mid new
    of_place taken right Done mid new f is t w =
        let s : taken ≡ remove x.left j = t ∙ ap (λ (v : List ℕ). remove v j) e in
        otherwise (IsConFrom clauses partners taken others right) (PlaceStep j) Done Done mid new
        (λ d q. (sym is_at ∙ is, subst (λ v. IsConFrom clauses partners v others x.right d) s (subst (λ v. IsConFrom clauses partners taken others v d) f q)))
        (λ h d q. subst (λ v. IsConFrom clauses partners taken others v d) (sym f) (subst (λ v. IsConFrom clauses partners v others x.right d) (sym s) q.1)) (λ h. h) w

    -- one more place, at which the atom stands
    pub place_goes : (taken right : List ℕ) (Done : Type 0) (mid new : List (List Elem)) → HasCounted PlaceStep j old mid → right ≡ x.right → a ≡ atom → taken ≡ remove left j
        → Appends Among (IsConFrom clauses partners taken others right) Done mid new → Done → HasCounted PlaceStep (j + 1) old new
    place_goes taken right Done mid new w f is t c done = count_goes PlaceStep j Done old mid new w (of_place taken right Done mid new f is t c) done

    -- and one of another atom
    pub place_passes : (mid : List (List Elem)) → HasCounted PlaceStep j old mid → (a ≡ atom → ⊥) → HasCounted PlaceStep (j + 1) old mid
    place_passes mid w differ = count_passes PlaceStep j old mid w (λ d q. differ (is_at ∙ q.0))

    -- the last place, which was not done with
    pub place_stops : (taken right : List ℕ) (Done Done' : Type 0) (mid new : List (List Elem)) → HasCounted PlaceStep j old mid → right ≡ x.right → a ≡ atom → taken ≡ remove left j
        → Appends Among (IsConFrom clauses partners taken others right) Done mid new → (Done' → ⊥) → Appends Among OfAxiom Done' old new
    place_stops taken right Done Done' mid new w f is t c undone =
        count_stops PlaceStep j OfAxiom (length x.left) Done Done' old mid new w (of_place taken right Done mid new f is t c) (subst (λ v. j < length v) e lt) by_place undone

    pub places_left : (Done : Type 0) (mid : List (List Elem)) → HasCounted PlaceStep j old mid → (Done → ⊥) → Appends Among OfAxiom Done old mid
    places_left Done mid w undone = count_leaves PlaceStep j OfAxiom (length x.left) Done old mid w (let l : j < length x.left = subst (λ v. j < length v) e lt in omega arith) by_place undone

  pub places_end : (j : ℕ) (left : List ℕ) (Done : Type 0) (old new : List (List Elem)) → HasCounted PlaceStep j old new → left ≡ x.left → j ≡ length left → Appends Among OfAxiom Done old new
  places_end j left Done old new w e l = count_ends PlaceStep j OfAxiom (length x.left) Done old new w (l ∙ ap length e) by_place place_by
