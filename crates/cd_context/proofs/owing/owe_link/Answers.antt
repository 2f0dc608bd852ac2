use Rattle.std.proofs.Common.{ℕ, List, subst}
use Rattle.std.specs.Result.{IsOk}
use Rattle.cd_base.specs.Lists.{OneOf}
use Rattle.cd_clause.specs.declared.elem.Elem.{Elem}
use Rattle.cd_context.specs.declared.facts.LinkFact.{LinkFact}
use Rattle.cd_base.specs.Appends.{Appends}
use Rattle.cd_base.proofs.Appending.{OfOne}
use Rattle.cd_context.proofs.Owed.{sends_link, ToldByOne}
use Rattle.cd_context.proofs.owing.owe_link.Goals as goal

pub tell_all-requires : goal.tell_all-requires
tell_all-requires c k m = rw c.clauses.ensures.value (c.live.ensures.store.in_range k (subst (λ (l : List ℕ). OneOf k l) c.live.ensures.value m))

pub returns : goal.returns
returns c earlier backs sures deads =
    let normal = c.args.index.now.normal in
    let key = c.args.key.now in
    let link = c.args.link.now in
    let old = c.args.out.now.items in
    let new = c.tell_all.new.out.items in
    let a = subst (λ (l : List (List Elem)). Appends OneOf (OfOne (ToldByOne normal key c.from_ref.result.now l) c.live.result.now) (IsOk c.tell_all.result) old new) c.clauses.ensures.value c.tell_all.ensures in
    let b = subst (λ (l : List ℕ). Appends OneOf (OfOne (ToldByOne normal key c.from_ref.result.now c.args.store.now.clauses) l) (IsOk c.tell_all.result) old new) c.live.ensures.value a in
    sends_link normal key c.args.store.now.clauses c.args.store.now.live backs sures deads earlier link (IsOk c.tell_all.result) old new
    (subst (λ (l : List LinkFact). Appends OneOf (OfOne (ToldByOne normal key l c.args.store.now.clauses) c.args.store.now.live) (IsOk c.tell_all.result) old new) c.from_ref.ensures.value b)
