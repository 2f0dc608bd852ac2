-- Lists with the same elements.
use Rattle.std.proofs.Common.{List, ◌∷◌, ◌++◌, inl, inr}
use Rattle.cd_base.specs.Lists.{OneOf, SameSet}
use Rattle.cd_base.proofs.Members.{member_left, member_right, member_cases}

pub same_set_refl : {X : Type 0} (xs : List X) → SameSet xs xs
same_set_refl xs = (λ x m. m, λ x m. m)

pub same_set_trans : {X : Type 0} (xs ys zs : List X) → SameSet xs ys → SameSet ys zs → SameSet xs zs
same_set_trans xs ys zs s t = (λ x m. t.0 x (s.0 x m), λ x m. s.1 x (t.1 x m))

pub same_set_cons : {X : Type 0} (z : X) (xs ys : List X) → SameSet xs ys → SameSet (z ∷ xs) (z ∷ ys)
same_set_cons z xs ys s = (
  λ x m. elim m [ inl e ↦ inl e | inr k ↦ inr (s.0 x k) ],
  λ x m. elim m [ inl e ↦ inl e | inr k ↦ inr (s.1 x k) ],
)

pub same_set_append : {X : Type 0} (xs ys us vs : List X) → SameSet xs us → SameSet ys vs → SameSet (xs ++ ys) (us ++ vs)
same_set_append xs ys us vs s t = (
  λ x m. elim (member_cases x xs ys m) [ inl k ↦ member_left x us vs (s.0 x k) | inr k ↦ member_right x us vs (t.0 x k) ],
  λ x m. elim (member_cases x us vs m) [ inl k ↦ member_left x xs ys (s.1 x k) | inr k ↦ member_right x xs ys (t.1 x k) ],
)

-- the first of three may stand second too
pub same_set_swap : {X : Type 0} (xs ys zs : List X) → SameSet (xs ++ (ys ++ zs)) (ys ++ (xs ++ zs))
same_set_swap xs ys zs = (λ x m. swap x xs ys zs m, λ x m. swap x ys xs zs m)
  where
    swap : {X : Type 0} (x : X) (xs ys zs : List X) → OneOf x (xs ++ (ys ++ zs)) → OneOf x (ys ++ (xs ++ zs))
    swap x xs ys zs m = elim (member_cases x xs (ys ++ zs) m) [
      | inl k ↦ member_right x ys (xs ++ zs) (member_left x xs zs k)
      | inr k ↦ elim (member_cases x ys zs k) [
        | inl w ↦ member_left x ys (xs ++ zs) w
        | inr w ↦ member_right x ys (xs ++ zs) (member_right x xs zs w)
      ]
    ]
