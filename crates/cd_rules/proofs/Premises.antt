-- What is concluded from a premise is what the rules conclude for its greatest element.
use Rattle.std.proofs.Common.{◌≡◌, ℕ, ◌<◌, List, [], ◌∷◌, length, get_or, sym, ◌∙◌, subst, inl, inr}
use Rattle.std.proofs.lemmas.List.{get_or_read}
use Rattle.cd_base.specs.Lists.{OneOf, SameSet}
use Rattle.cd_base.specs.declared.normal.Normal.{Normal}
use Rattle.cd_clause.specs.declared.elem.Elem.{Elem}
use Rattle.cd_clause.specs.Elements.{Eligible, rest}
use Rattle.cd_rules.specs.Elems.{IsOfElem}
use Rattle.cd_rules.specs.Facts.{IsPicked, ToldFacts}
use Rattle.cd_rules.specs.Uses.{FromClause}
use Rattle.cd_rules.proofs.Others.{of_elem_same}
use Rattle.cd_rules.proofs.Using.{IsOfSome, from_clause_some, some_from_clause}

module _ (n : Normal) (key : List ℕ) (clauses : List (List Elem)) (live : List ℕ) (premise : ℕ) (facts : ToldFacts) (p : List Elem) (l : premise < length clauses) (e : p ≡ get_or clauses premise p) where
  abbrev Has : List Elem → Type 0
  Has = IsPicked clauses (premise ∷ live)

  some_concluded : (d : List Elem) → IsOfSome n key Has facts p d → FromClause n key clauses live premise facts d
  some_concluded d q = some_from_clause n key clauses live premise facts d (subst (λ c. IsOfSome n key Has facts c d) (get_or_read clauses premise p l e []) q)

  concluded_some : (d : List Elem) → FromClause n key clauses live premise facts d → IsOfSome n key Has facts p d
  concluded_some d q = subst (λ c. IsOfSome n key Has facts c d) (sym (get_or_read clauses premise p l e [])) (from_clause_some n key clauses live premise facts d q)

  -- nothing is concluded from a clause without elements
  pub none_concluded : ((x : Elem) → Eligible n x p → ⊥) → (d : List Elem) → FromClause n key clauses live premise facts d → ⊥
  none_concluded f d q = let w = concluded_some d q in f w.0 w.1

  module _ (x : Elem) (others : List Elem) (el : Eligible n x p) (only : (f : Elem) → Eligible n f p → f ≡ x) (s : SameSet others (rest x p)) (numbers choices : List ℕ) (u : numbers ≡ choices) (v : choices ≡ premise ∷ live) where
    abbrev HasNumber : List Elem → Type 0
    HasNumber = IsPicked clauses numbers

    pub elem_concludes : (d : List Elem) → IsOfElem n key HasNumber facts x others d → FromClause n key clauses live premise facts d
    elem_concludes d q =
        some_concluded d (x, el, of_elem_same n key Has facts others (rest x p) s d x (subst (λ z. IsOfElem n key (IsPicked clauses z) facts x others d) (u ∙ v) q))

    pub elem_concluded : (d : List Elem) → FromClause n key clauses live premise facts d → IsOfElem n key HasNumber facts x others d
    elem_concluded d q =
        let w = concluded_some d q in
        subst (λ z. IsOfElem n key (IsPicked clauses z) facts x others d) (sym (u ∙ v))
        (of_elem_same n key Has facts (rest x p) others (s.1, s.0) d x (subst (λ z. IsOfElem n key Has facts z (rest z p) d) (only w.0 w.1) w.2))

-- the numbers of the premise and of what is live are those of clauses
pub choices_below : (live xs ys : List ℕ) (premise count : ℕ) → xs ≡ ys → ys ≡ premise ∷ live → premise < count → ((k : ℕ) → OneOf k live → k < count) → (k : ℕ) → OneOf k xs → k < count
choices_below live xs ys premise count q r l h k m = elim (subst (OneOf k) (q ∙ r) m) [ inl e ↦ subst (λ w. w < count) (sym e) l | inr w ↦ h k w ]
