-- What rules append to an empty list.
use Rattle.std.proofs.Common.{◌≡◌, List, [], ◌++◌, sym, ◌∙◌, ap, subst}
use Rattle.cd_base.specs.Lists.{OneOf}
use Rattle.cd_clause.specs.Derivations.{Redundant}
use Rattle.cd_clause.specs.declared.elem.Elem.{Elem}
use Rattle.cd_clause.proofs.Strengths.{within_covers}
use Rattle.cd_base.specs.Appends.{Appends}
use Rattle.cd_rules.specs.Among.{Among}

all_added : (old new added : List (List Elem)) → old ≡ [] → new ≡ old ++ added → new ≡ added
all_added old new added e f = f ∙ ap (λ w. w ++ added) e

-- each clause there is one of which P holds
pub appended_only : (P : List Elem → Type 0) (Done : Type 0) (old new : List (List Elem)) → old ≡ [] → Appends Among P Done old new → (d : List Elem) → OneOf d new → P d
appended_only P Done old new e a d m = a.only d (subst (λ q. OneOf d q) (all_added old new a.added e a.follows) m)

-- where the work was done, each clause of which P holds is redundant
pub appended_every : (P : List Elem → Type 0) (Done : Type 0) (old new : List (List Elem)) → old ≡ [] → Appends Among P Done old new → Done → (d : List Elem) → P d → Redundant new d
appended_every P Done old new e a done d p =
    let r = a.every done d p in (r.0, subst (λ q. OneOf r.0 q) (sym (all_added old new a.added e a.follows)) r.1, within_covers r.0 d r.2.0)
