use Rattle.std.proofs.Common.{◌↔◌, ℕ, List, subst}
use Rattle.std.specs.Result.{IfOk}
use Rattle.cd_base.specs.Lists.{OneOf}
use Rattle.cd_clause.specs.Numbers.{picked}
use Rattle.cd_clause.specs.declared.elem.Elem.{Elem}
use Rattle.cd_clause.specs.Derivations.{IsSingle}
use Rattle.cd_context.specs.State.{State, live_of}
use Rattle.cd_context.proofs.context.Context.singles.Goals as goal

pub returns-clause-exact : goal.returns-clause-exact
returns-clause-exact c =
    subst (λ (s : State). IfOk c.singles.result (λ atoms. (b : ℕ) → OneOf b atoms.items ↔ IsSingle (live_of s) b)) c.self.view_is
    (subst (λ (l : List ℕ). IfOk c.singles.result (λ atoms. (b : ℕ) → OneOf b atoms.items ↔ IsSingle (picked c.self.inside.store.clauses l) b)) c.live-live.ensures.value
    (subst (λ (cs : List (List Elem)). IfOk c.singles.result (λ atoms. (b : ℕ) → OneOf b atoms.items ↔ IsSingle (picked cs c.live-live.result.now) b)) c.clauses-clauses.ensures.value c.singles.ensures.exact))
