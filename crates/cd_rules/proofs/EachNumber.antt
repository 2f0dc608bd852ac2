-- Clauses by number, and walks over numbers that append what is concluded with each of these clauses.
use Rattle.std.proofs.Common.{◌≡◌, ℕ, ◌+◌, ◌<◌, ◌≤◌, List, [], ◌∷◌, length, get_or, refl, ap, subst, inl, inr}
use Rattle.std.proofs.lemmas.List.{get_or_read}
use Rattle.cd_base.specs.Lists.{OneOf}
use Rattle.cd_base.proofs.Members.{member_get}
use Rattle.cd_clause.specs.declared.elem.Elem.{Elem}
use Rattle.cd_clause.specs.Numbers.{picked}
use Rattle.cd_base.specs.Appends.{Appends}
use Rattle.cd_rules.specs.Among.{Among}
use Rattle.cd_rules.specs.Walks.{ByOne}
use Rattle.cd_rules.proofs.EachItem.{SoFar, goes_on, stops, ends}

pub member_picked : (clauses : List (List Elem)) (numbers : List ℕ) (m : ℕ) → OneOf m numbers → OneOf (get_or clauses m []) (picked clauses numbers)
member_picked clauses [] m k = absurd k
member_picked clauses (n ∷ numbers) m (inl e) = inl (ap (λ w. get_or clauses w []) e)
member_picked clauses (n ∷ numbers) m (inr k) = inr (member_picked clauses numbers m k)

pub picked_member : (clauses : List (List Elem)) (numbers : List ℕ) (c : List Elem) → OneOf c (picked clauses numbers) → (m : ℕ) × OneOf m numbers × (c ≡ get_or clauses m [])
picked_member clauses [] c k = absurd k
picked_member clauses (n ∷ numbers) c (inl e) = (n, inl refl, e)
picked_member clauses (n ∷ numbers) c (inr k) = let r = picked_member clauses numbers c k in (r.0, inr r.1, r.2)

module _ (Q : List Elem → List Elem → Type 0) (clauses : List (List Elem)) (numbers : List ℕ) where
  -- what the clauses with the first i numbers give was appended
  abbrev pub SoFarWith : ℕ → List (List Elem) → List (List Elem) → Type 0
  SoFarWith i old new = SoFar (λ m. Q (get_or clauses m [])) numbers i old new

  by_clause : (d : List Elem) → ByOne (λ m. Q (get_or clauses m [])) numbers d → ByOne Q (picked clauses numbers) d
  by_clause d p = (get_or clauses p.0 [], member_picked clauses numbers p.0 p.1, p.2)

  by_number : (d : List Elem) → ByOne Q (picked clauses numbers) d → ByOne (λ m. Q (get_or clauses m [])) numbers d
  by_number d p = let r = picked_member clauses numbers p.0 p.1 in (r.0, r.1, subst (λ w. Q w d) r.2 p.2)

  -- after the last number
  pub ends_with : (P : List Elem → Type 0) (i : ℕ) {Done : Type 0} {old new : List (List Elem)} → length numbers ≤ i
      → SoFarWith i old new → ((d : List Elem) → ByOne Q (picked clauses numbers) d → P d) → ((d : List Elem) → P d → ByOne Q (picked clauses numbers) d) → Appends Among P Done old new
  ends_with P i l a f g = ends P (λ m. Q (get_or clauses m [])) numbers i l a (λ d p. f d (by_clause d p)) (λ d p. by_number d (g d p))

  module _ (i : ℕ) (l : i < length numbers) (within : (k : ℕ) → OneOf k numbers → k < length clauses) where
    pub in_range : get_or numbers i 0 < length clauses
    in_range = within (get_or numbers i 0) (member_get numbers i 0 l)

    module _ (c : List Elem) (is : c ≡ get_or clauses (get_or numbers i 0) c) where
      read : {Done : Type 0} {old new : List (List Elem)} → Appends Among (Q c) Done old new → Appends Among (Q (get_or clauses (get_or numbers i 0) [])) Done old new
      read {Done = Done} {old = old} {new = new} a = subst (λ w. Appends Among (Q w) Done old new) (get_or_read clauses (get_or numbers i 0) c in_range is []) a

      -- after one number more
      pub goes_on_with : {Done : Type 0} {old mid new : List (List Elem)} → SoFarWith i old mid → Appends Among (Q c) Done mid new → Done → SoFarWith (i + 1) old new
      goes_on_with a b h = goes_on (λ m. Q (get_or clauses m [])) numbers i (get_or numbers i 0) 0 l refl a (read b) h

      -- where the work for a number was given up
      pub stops_with : (P : List Elem → Type 0) {Done Done' : Type 0} {old mid new : List (List Elem)}
          → SoFarWith i old mid → Appends Among (Q c) Done mid new → (Done' → ⊥) → ((d : List Elem) → ByOne Q (picked clauses numbers) d → P d) → Appends Among P Done' old new
      stops_with P a b h f = stops (λ m. Q (get_or clauses m [])) numbers i (get_or numbers i 0) 0 l refl P a (read b) h (λ d p. f d (by_clause d p))
