use Rattle.std.proofs.Common.{◌<◌, ℕ, List, length, sym, subst}
use Rattle.std.specs.Result.{IsOk}
use Rattle.cd_base.specs.Lists.{OneOf}
use Rattle.cd_clause.specs.declared.elem.Elem.{Elem}
use Rattle.cd_base.specs.Appends.{Appends}
use Rattle.cd_rules.specs.Among.{Among}
use Rattle.cd_rules.specs.Uses.{FromSure}
use Rattle.cd_context.proofs.FactRules.{appends_sure}
use Rattle.cd_context.proofs.fact_rules.conclude_sure.Goals as goal

pub on_sure-done-requires : goal.on_sure-done-requires
on_sure-done-requires c = record {
  live = λ k m. subst (λ (cs : List (List Elem)). k < length cs) (sym c.clauses.ensures.value)
      (c.clauses.ensures.store.in_range k (c.in_ok-numbers.ensures.live k (subst (λ (l : List ℕ). OneOf k l) c.as_slice.ensures.value m)));
}

pub returns : goal.returns
returns c = λ key.
    let n = c.args.index.now.normal in
    let a : Appends Among (FromSure n key c.args.store.now.clauses c.in_ok-numbers.numbers.items c.args.sure.now) (IsOk c.on_sure-done.result) c.args.out.now.items c.on_sure-done.new.out.items
    = rw (← c.clauses.ensures.value, ← c.as_slice.ensures.value) (c.on_sure-done.ensures key) in
    appends_sure n key c.args.store.now.clauses c.args.store.now.live c.in_ok-numbers.numbers.items c.clauses.ensures.store.in_range c.in_ok-numbers.ensures.live c.args.sure.now c.in_ok-numbers.ensures.every _ c.args.out.now.items c.on_sure-done.new.out.items a
