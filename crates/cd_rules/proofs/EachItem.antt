-- Walks over a list that append, for each item in turn, what is concluded by that item.
use Rattle.std.proofs.Common.{◌≡◌, ℕ, ◌+◌, ◌<◌, ◌≤◌, ◌⊎◌, List, [], ◌∷◌, length, get_or, take, drop, sym, ◌∙◌, subst, inl, inr}
use Rattle.std.proofs.lemmas.List.{take_more, take_all, take-append-drop}
use Rattle.cd_base.specs.Lists.{OneOf}
use Rattle.cd_base.proofs.Members.{member_left, member_right, member_cases}
use Rattle.cd_clause.specs.declared.elem.Elem.{Elem}
use Rattle.cd_base.specs.Appends.{Appends}
use Rattle.cd_rules.specs.Among.{Among}
use Rattle.cd_base.proofs.Appending.{both, otherwise}
use Rattle.cd_rules.proofs.Among.{among_grows}
use Rattle.cd_rules.specs.Walks.{ByOne}

-- the items up to a place, where there is one more
module _ {X : Type 0} (items : List X) (i : ℕ) (x d : X) (l : i < length items) (e : x ≡ get_or items i d) where
  pub last_taken : OneOf x (take (i + 1) items)
  last_taken = subst (OneOf x) (sym (take_more items i d l)) (member_right x (take i items) (get_or items i d ∷ []) (inl e))

  pub taken_more : (y : X) → OneOf y (take i items) → OneOf y (take (i + 1) items)
  taken_more y m = subst (OneOf y) (sym (take_more items i d l)) (member_left y (take i items) (get_or items i d ∷ []) m)

  pub taken_cases : (y : X) → OneOf y (take (i + 1) items) → OneOf y (take i items) ⊎ (y ≡ x)
  taken_cases y m = elim (member_cases y (take i items) (get_or items i d ∷ []) (subst (OneOf y) (take_more items i d l) m)) [
    | inl k ↦ inl k
    | inr k ↦ elim k [ inl q ↦ inr (q ∙ sym e) | inr z ↦ absurd z ]
  ]

pub taken : {X : Type 0} (items : List X) (i : ℕ) (y : X) → OneOf y (take i items) → OneOf y items
taken items i y m = subst (OneOf y) (take-append-drop i items) (member_left y (take i items) (drop i items) m)

-- what the first i items give was appended
abbrev pub SoFar : {X : Type 0} → (X → List Elem → Type 0) → List X → ℕ → List (List Elem) → List (List Elem) → Type 0
SoFar Q items i old new = Appends Among (ByOne Q (take i items)) (Unit {0}) old new

module _ {X : Type 0} (Q : X → List Elem → Type 0) (items : List X) (i : ℕ) (x d : X) (l : i < length items) (e : x ≡ get_or items i d) where
  -- after one item more
  pub goes_on : {Done : Type 0} {old mid new : List (List Elem)} → SoFar Q items i old mid → Appends Among (Q x) Done mid new → Done → SoFar Q items (i + 1) old new
  goes_on {Done = Done} {old = old} {mid = mid} {new = new} a b h =
      otherwise (λ c. ByOne Q (take i items) c ⊎ Q x c) (ByOne Q (take (i + 1) items)) (Unit {0} × Done) (Unit {0}) old new
      (λ c p. elim p [ inl q ↦ (q.0, taken_more items i x d l e q.0 q.1, q.2) | inr q ↦ (x, last_taken items i x d l e, q) ])
      (λ u c p. elim (taken_cases items i x d l e p.0 p.1) [ inl m ↦ inl (p.0, m, p.2) | inr q ↦ inr (subst (λ w. Q w c) q p.2) ])
      (λ u. (tt, h))
      (both among_grows (ByOne Q (take i items)) (Q x) (Unit {0}) Done old mid new a b)

  -- where the work for an item was given up
  pub stops : (P : List Elem → Type 0) {Done Done' : Type 0} {old mid new : List (List Elem)}
      → SoFar Q items i old mid → Appends Among (Q x) Done mid new → (Done' → ⊥) → ((c : List Elem) → ByOne Q items c → P c) → Appends Among P Done' old new
  stops P {Done = Done} {Done' = Done'} {old = old} {mid = mid} {new = new} a b h f =
      otherwise (λ c. ByOne Q (take i items) c ⊎ Q x c) P (Unit {0} × Done) Done' old new
      (λ c p. f c (elim p [ inl q ↦ (q.0, taken items i q.0 q.1, q.2) | inr q ↦ (x, taken items (i + 1) x (last_taken items i x d l e), q) ]))
      (λ k c p. absurd (h k)) (λ k. absurd (h k))
      (both among_grows (ByOne Q (take i items)) (Q x) (Unit {0}) Done old mid new a b)

-- after the last item
pub ends : (P : List Elem → Type 0) {X : Type 0} (Q : X → List Elem → Type 0) (items : List X) (i : ℕ) {Done : Type 0} {old new : List (List Elem)} → length items ≤ i
    → SoFar Q items i old new → ((c : List Elem) → ByOne Q items c → P c) → ((c : List Elem) → P c → ByOne Q items c) → Appends Among P Done old new
ends P Q items i {Done = Done} {old = old} {new = new} l a f g =
    let e : take i items ≡ items = take_all i items l in
    otherwise (ByOne Q (take i items)) P (Unit {0}) Done old new
    (λ c p. f c (subst (λ w. ByOne Q w c) e p)) (λ h c p. subst (λ w. ByOne Q w c) (sym e) (g c p)) (λ h. tt) a
