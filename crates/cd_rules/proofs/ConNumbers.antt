-- The rule Con by numbered axioms.
use Rattle.std.proofs.Common.{◌≡◌, ℕ, ◌+◌, ◌<◌, List, [], ◌∷◌, length, get_or, refl, sym, ◌∙◌, ap, subst, inl, inr}
use Rattle.std.proofs.lemmas.List.{get_or_read}
use Rattle.cd_base.specs.Lists.{OneOf}
use Rattle.cd_base.specs.declared.normal.Conj.{Conj}
use Rattle.cd_base.specs.declared.normal.Normal.{Normal}
use Rattle.cd_base.proofs.Members.{member_left, member_right, member_cases, member_get, member_at}
use Rattle.cd_clause.specs.declared.elem.Elem.{Elem}
use Rattle.cd_index.specs.Index.{left_of}
use Rattle.cd_index.proofs.Numbers.{left_is}
use Rattle.cd_base.specs.Appends.{Appends}
use Rattle.cd_rules.specs.declared.partners.Partner.{Partner}
use Rattle.cd_rules.specs.Among.{Among}
use Rattle.cd_base.proofs.Appending.{otherwise}
use Rattle.cd_rules.specs.Candidates.{AreCandidates}
use Rattle.cd_rules.specs.LookUps.{AreNumbers, HasAllWith}
use Rattle.cd_rules.specs.Partners.{IsAtHand, UnionOf, IsConWith, IsConOf}
use Rattle.cd_rules.specs.Steps.{IsWithoutOne}
use Rattle.cd_rules.proofs.Counted.{HasCounted, OfBelow, count_ends, count_goes, count_stops}

-- what the axiom of the number at place i concludes
abbrev pub OfNumber : List Conj → List (List Elem) → List Partner → List ℕ → ℕ → List Elem → ℕ → List Elem → Type 0
OfNumber axioms clauses partners numbers atom others i d =
    (x : Conj) × (x ≡ get_or axioms (get_or numbers i 0) x) × IsConWith clauses partners x atom others d

-- the left side of an axiom by its number
pub left_at : (axioms : List Conj) (k : ℕ) (x : Conj) → k < length axioms → get_or axioms k x ≡ x → left_of axioms k ≡ x.left
left_at axioms k x l e = left_is axioms k x l ∙ ap (λ (c : Conj). c.left) e

-- each of the atoms for which there are partners is at hand
union_at_hand : (clauses : List (List Elem)) (partners : List Partner) (atom : ℕ) (taken : List ℕ) (m : List Elem) → UnionOf clauses partners taken m → (b : ℕ) → OneOf b taken → IsAtHand partners atom b
union_at_hand clauses partners atom [] m r b z = absurd z
union_at_hand clauses partners atom (a ∷ taken) m r b (inl e) = inr (r.0, r.1, r.2 ∙ sym e)
union_at_hand clauses partners atom (a ∷ taken) m r b (inr z) = union_at_hand clauses partners atom taken r.3.tail r.3.union b z

-- each atom of a left side is the atom, or one of the others
pub on_left : (partners : List Partner) (atom : ℕ) (left taken : List ℕ) → IsWithoutOne atom left taken → ((b : ℕ) → OneOf b taken → IsAtHand partners atom b) → (b : ℕ) → OneOf b left → IsAtHand partners atom b
on_left partners atom left taken w h b m = elim (member_cases b w.0 (atom ∷ w.1) (subst (OneOf b) w.2 m)) [
  | inl q ↦ h b (subst (OneOf b) (sym w.3) (member_left b w.0 w.1 q))
  | inr q ↦ elim q [ inl e ↦ inl e | inr z ↦ h b (subst (OneOf b) (sym w.3) (member_right b w.0 w.1 z)) ]
]

-- an axiom that concludes has each atom of its left side at hand
pub concludes_at_hand : (clauses : List (List Elem)) (partners : List Partner) (x : Conj) (atom : ℕ) (others d : List Elem) → IsConWith clauses partners x atom others d → (b : ℕ) → OneOf b x.left → IsAtHand partners atom b
concludes_at_hand clauses partners x atom others d q = on_left partners atom x.left q.0 q.1 (union_at_hand clauses partners atom q.0 q.2.0 q.2.1)

module _ (n : Normal) (clauses : List (List Elem)) (partners : List Partner) (numbers : List ℕ) (atom : ℕ) (others : List Elem) (among : AreCandidates n.n1 partners atom numbers) where
  pub by_number : (d : List Elem) → OfBelow (OfNumber n.n1 clauses partners numbers atom others) (length numbers) d → IsConOf n.n1 clauses partners atom others d
  by_number d q =
      let x : Conj = q.2.0 in
      let l : get_or numbers q.0 0 < length n.n1 = among.in_range (get_or numbers q.0 0) (member_get numbers q.0 0 q.1) in
      (x, subst (λ w. OneOf w n.n1) (sym q.2.1) (member_get n.n1 (get_or numbers q.0 0) x l), q.2.2)

  pub number_by : (d : List Elem) → IsConOf n.n1 clauses partners atom others d → OfBelow (OfNumber n.n1 clauses partners numbers atom others) (length numbers) d
  number_by d q =
      let x : Conj = q.0 in
      let w = member_at x n.n1 q.1 in
      let left : left_of n.n1 w.0 ≡ x.left = left_at n.n1 w.0 x w.1 (w.2 x) in
      let taken : List ℕ = q.2.0 in
      let m : OneOf w.0 numbers = among.every w.0 w.1 taken (subst (λ v. IsWithoutOne atom v taken) (sym left) q.2.1)
      (union_at_hand clauses partners atom taken q.2.2.0 q.2.2.1) in
      let p = member_at w.0 numbers m in
      (p.0, p.1, (x, sym (w.2 x) ∙ ap (λ k. get_or n.n1 k x) (sym (p.2 0)), q.2))

  abbrev NumberStep : ℕ → List Elem → Type 0
  NumberStep = OfNumber n.n1 clauses partners numbers atom others

  abbrev OfAny : List Elem → Type 0
  OfAny = IsConOf n.n1 clauses partners atom others

  -- the number at a place is that of an axiom
  pub number_in : (i : ℕ) (m : Normal) (axioms : List Conj) → m ≡ n → axioms ≡ m.n1 → i < length numbers → get_or numbers i 0 < length axioms
  number_in i m axioms e f lt = subst (λ (v : List Conj). get_or numbers i 0 < length v) (sym (f ∙ ap (λ (v : Normal). v.n1) e)) (among.in_range (get_or numbers i 0) (member_get numbers i 0 lt))

  module _ (i : ℕ) (m : Normal) (axioms : List Conj) (x : Conj) (Done : Type 0) (old mid new : List (List Elem)) (e : m ≡ n) (f : axioms ≡ m.n1) (lt : i < length numbers)
      (r : x ≡ get_or axioms (get_or numbers i 0) x) (w : HasCounted NumberStep i old mid) (a : Appends Among (IsConWith clauses partners x atom others) Done mid new) where
    of_number : Appends Among (NumberStep i) Done mid new
    of_number =
        let k : ℕ = get_or numbers i 0 in
        let at : x ≡ get_or n.n1 k x = r ∙ ap (λ (v : List Conj). get_or v k x) (f ∙ ap (λ (v : Normal). v.n1) e) in
        let l : k < length n.n1 = among.in_range k (member_get numbers i 0 lt) in
        otherwise (IsConWith clauses partners x atom others) (NumberStep i) Done Done mid new
        (λ d q. (x, at, q))
        (λ h d q. let z : q.0 ≡ x = q.1 ∙ sym (get_or_read n.n1 k x l at q.0) in subst (λ v. IsConWith clauses partners v atom others d) z q.2)
        (λ h. h) a

    -- one more axiom is done with
    pub number_goes : Done → HasCounted NumberStep (i + 1) old new
    number_goes done = count_goes NumberStep i Done old mid new w of_number done

    -- the last axiom, which was not done with
    pub number_stops : (Done' : Type 0) → (Done' → ⊥) → Appends Among OfAny Done' old new
    number_stops Done' undone = count_stops NumberStep i OfAny (length numbers) Done Done' old mid new w of_number lt by_number undone

  pub numbers_end : (i : ℕ) (Done : Type 0) (old new : List (List Elem)) → HasCounted NumberStep i old new → i ≡ length numbers → Appends Among OfAny Done old new
  numbers_end i Done old new w e = count_ends NumberStep i OfAny (length numbers) Done old new w e by_number number_by

-- all axioms with the atom on the left are candidates
pub with_left_try : (axioms : List Conj) (partners : List Partner) (atom : ℕ) (numbers : List ℕ) → AreNumbers axioms numbers → HasAllWith axioms atom numbers → AreCandidates axioms partners atom numbers
with_left_try axioms partners atom numbers within all = record {
  in_range = within;
  every = λ k lt taken w h. all k lt (subst (OneOf atom) (sym w.2) (member_right atom w.0 (atom ∷ w.1) (inl refl)));
}
