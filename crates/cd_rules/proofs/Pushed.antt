-- One push, or none.
use Rattle.std.proofs.Common.{◌≡◌, List, [], ◌∷◌, ◌++◌, Result, Ok, Err, sym, subst}
use Rattle.std.specs.Result.{IsOk, IsErr}
use Rattle.cd_base.specs.Lists.{SameSet}
use Rattle.cd_clause.specs.declared.elem.Elem.{Elem}
use Rattle.cd_base.specs.Appends.{Appends}
use Rattle.cd_rules.specs.Among.{Among}
use Rattle.cd_base.proofs.Appending.{none}
use Rattle.cd_rules.proofs.Among.{one}

pub same_sym : {X : Type 0} (xs ys : List X) → SameSet xs ys → SameSet ys xs
same_sym xs ys s = (s.1, s.0)

pub same_trans : {X : Type 0} (xs ys zs : List X) → SameSet xs ys → SameSet ys zs → SameSet xs zs
same_trans xs ys zs s t = (λ x m. t.0 x (s.0 x m), λ x m. s.1 x (t.1 x m))

-- a clause with these elements was pushed, as it was to be
pub pushed : (P : List Elem → Type 0) (Done : Type 0) (old new : List (List Elem)) (c e : List Elem) → new ≡ old ++ c ∷ [] → SameSet c e
    → ((d : List Elem) → SameSet d e → P d) → (Done → (d : List Elem) → P d → SameSet d e) → Appends Among P Done old new
pushed P Done old new c e is s f g = one P Done old new c is (f c s) (λ h d p. same_trans c e d s (same_sym d e (g h d p)))

-- nothing was pushed
pub unpushed : (P : List Elem → Type 0) (Done : Type 0) (old new : List (List Elem)) → new ≡ old → (Done → (d : List Elem) → P d → ⊥) → Appends Among P Done old new
unpushed P Done old new e f = subst (Appends Among P Done old) (sym e) (none P Done old f)

-- what the exit of a `?` returns is no success
pub failed : {T E : Type 0} (r : Result T E) → IsErr r → IsOk r → ⊥
failed (Ok x) e h = cc
failed (Err y) e h = cc
