-- Walks over a list that look for an item.
use Rattle.std.proofs.Common.{◌≡◌, ℕ, ◌+◌, ◌<◌, ◌≤◌, List, length, get_or, take, sym, subst, inl, inr}
use Rattle.std.proofs.lemmas.List.{take_all}
use Rattle.cd_base.specs.Lists.{OneOf}
use Rattle.cd_rules.proofs.EachItem.{taken_cases}

-- the item isn't among those up to a place, nor is it the one there
pub not_yet : {X : Type 0} (items : List X) (i : ℕ) (x d y : X) → i < length items → x ≡ get_or items i d
    → (OneOf y (take i items) → ⊥) → (y ≡ x → ⊥) → OneOf y (take (i + 1) items) → ⊥
not_yet items i x d y l e f g m = elim (taken_cases items i x d l e y m) [ inl k ↦ f k | inr q ↦ g q ]

-- it is nowhere
pub not_there : {X : Type 0} (items : List X) (i : ℕ) (y : X) → length items ≤ i → (OneOf y (take i items) → ⊥) → OneOf y items → ⊥
not_there items i y l f m = f (subst (OneOf y) (sym (take_all i items l)) m)
