-- Clauses among those that several rules append.
use Rattle.std.proofs.Common.{◌≡◌, ◌⊎◌, List, [], ◌∷◌, ◌++◌, refl, inl, inr}
use Rattle.cd_base.specs.Appends.{Appends}
use Rattle.cd_base.specs.Lists.{SameSet}
use Rattle.cd_base.proofs.Members.{member_left, member_right}
use Rattle.cd_clause.specs.declared.elem.Elem.{Elem}
use Rattle.cd_rules.specs.Among.{Among}

pub among_grows : (d : List Elem) (xs ys : List (List Elem)) → Among d xs ⊎ Among d ys → Among d (xs ++ ys)
among_grows d xs ys (inl a) = (a.0, member_left a.0 xs ys a.1, a.2)
among_grows d xs ys (inr a) = (a.0, member_right a.0 xs ys a.1, a.2)

-- one clause was appended
pub one : (P : List Elem → Type 0) (Done : Type 0) (old new : List (List Elem)) (c : List Elem) → new ≡ old ++ c ∷ [] → P c → (Done → (d : List Elem) → P d → SameSet c d) → Appends Among P Done old new
one P Done old new c e p s = record {
  added = c ∷ [];
  follows = e;
  only = λ d m. elim m [ inl q ↦ rw q p | inr z ↦ absurd z ];
  every = λ h d q. (c, inl refl, s h d q);
}
