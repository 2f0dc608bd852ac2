-- What a call appends to a list.
use Rattle.std.specs.Prelude.{◌≡◌, List, ◌++◌}
use Rattle.cd_base.specs.Lists.{OneOf, HasNoRepeats}

-- `new` is `old` followed by elements of which P holds, and where the work was done, each element of which P holds is among them.
-- `Among` says what that is: `OneOf`, or something weaker
pub record Appends {X : Type 0} (Among : X → List X → Type 0) (P : X → Type 0) (Done : Type 0)
    (old new : List X) : Type 0 where
  pub added : List X
  pub follows : new ≡ old ++ added
  pub only : (x : X) → OneOf x added → P x
  pub every : Done → (x : X) → P x → Among x added

-- and none of them twice
pub record AppendsOnce {X : Type 0} (P : X → Type 0) (Done : Type 0)
    (old new : List X) : Type 0 where
  pub added : List X
  pub follows : new ≡ old ++ added
  pub only : (x : X) → OneOf x added → P x
  pub once : HasNoRepeats added
  pub every : Done → (x : X) → P x → OneOf x added
