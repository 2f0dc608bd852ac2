-- What was appended where the work failed, and where it was done.
use Rattle.std.proofs.Common.{List, Result, Ok, Err}
use Rattle.std.specs.Result.{IsOk, IsErr}
use Rattle.std.proofs.lemmas.Bool.{false≢true}
use Rattle.cd_clause.specs.declared.elem.Elem.{Elem}
use Rattle.cd_base.specs.Appends.{Appends}
use Rattle.cd_rules.specs.Among.{Among}
use Rattle.cd_base.proofs.Appending.{otherwise}

-- no result is both
pub not_ok : {T E : Type 0} (r : Result T E) → IsErr r → IsOk r → ⊥
not_ok (Ok x) e h = false≢true e
not_ok (Err x) e h = false≢true h

-- an error was met, so nothing is said of what is missing
pub failed : {T E : Type 0} (P Q : List Elem → Type 0) (Done : Type 0) (r : Result T E) (old new : List (List Elem)) → IsErr r → ((d : List Elem) → P d → Q d)
    → Appends Among P Done old new → Appends Among Q (IsOk r) old new
failed P Q Done r old new e f a = otherwise P Q Done (IsOk r) old new f (λ h. absurd (not_ok r e h)) (λ h. absurd (not_ok r e h)) a

-- the same, where it was done under another condition
pub done : (P : List Elem → Type 0) (Done Done' : Type 0) (old new : List (List Elem)) → (Done' → Done) → Appends Among P Done old new → Appends Among P Done' old new
done P Done Done' old new h a = otherwise P P Done Done' old new (λ d p. p) (λ e d p. p) h a
