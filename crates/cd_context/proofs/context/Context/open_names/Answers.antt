use Rattle.std.proofs.Common.{◌↔◌, ◌<◌, ℕ, List, length, sym, subst}
use Rattle.std.specs.Result.{IfOk}
use Rattle.cd_base.specs.Lists.{OneOf}
use Rattle.cd_base.specs.declared.normal.Normal.{Normal}
use Rattle.cd_clause.specs.Numbers.{picked}
use Rattle.cd_clause.specs.declared.elem.Elem.{Elem}
use Rattle.cd_context.specs.OpenNames.{IsOpenName}
use Rattle.cd_context.specs.State.{State, live_of}
use Rattle.cd_context.proofs.context.Context.open_names.Goals as goal

pub returns : goal.returns
returns c =
    subst (λ (n : Normal). IfOk c.open_names.result (λ names. (b : ℕ) → OneOf b names.items ↔ IsOpenName n (live_of c.args.self.now) b)) c.normal.ensures
    (subst (λ (s : State). IfOk c.open_names.result (λ names. (b : ℕ) → OneOf b names.items ↔ IsOpenName c.normal.result.now (live_of s) b)) c.self.view_is
    (subst (λ (l : List ℕ). IfOk c.open_names.result (λ names. (b : ℕ) → OneOf b names.items ↔ IsOpenName c.normal.result.now (picked c.self.inside.store.clauses l) b)) c.live-live.ensures.value
    (subst (λ (cs : List (List Elem)). IfOk c.open_names.result (λ names. (b : ℕ) → OneOf b names.items ↔ IsOpenName c.normal.result.now (picked cs c.live-live.result.now) b)) c.clauses-clauses.ensures.value c.open_names.ensures)))

pub open_names-requires : goal.open_names-requires
open_names-requires c = λ k m.
    subst (λ (cs : List (List Elem)). k < length cs) (sym c.clauses-clauses.ensures.value) (c.live-live.ensures.store.in_range k (subst (OneOf k) c.live-live.ensures.value m))
