use Rattle.std.proofs.Common.{ℕ, List, subst}
use Rattle.std.specs.Result.{IsOk}
use Rattle.cd_base.specs.Lists.{OneOf}
use Rattle.cd_clause.specs.declared.elem.Elem.{Elem}
use Rattle.cd_base.specs.Appends.{Appends}
use Rattle.cd_base.proofs.Appending.{OfOne}
use Rattle.cd_context.specs.OwedParts.{AreFrom}
use Rattle.cd_context.proofs.Owed.{sends_since, OwedByOne}
use Rattle.cd_context.proofs.owing.owe_since.Goals as goal

pub owe_all-requires : goal.owe_all-requires
owe_all-requires c k m =
    rw c.clauses.ensures.value (c.live.ensures.store.in_range k (subst (λ (l : List ℕ). OneOf k l) c.live.ensures.value ((c.since.ensures k).0 m).0))

pub returns : goal.returns
returns c backs sures deads =
    let normal = c.args.index.now.normal in
    let key = c.args.key.now in
    let links = c.args.links.now in
    let found = c.since.result.now in
    sends_since normal key c.args.store.now.clauses c.args.store.now.live backs sures deads links c.args.stored found (IsOk c.owe_all.result) c.args.out.now.items c.owe_all.new.out.items
    (subst (λ (l : List ℕ). AreFrom c.args.stored l found) c.live.ensures.value c.since.ensures)
    (subst (λ (l : List (List Elem)). Appends OneOf (OfOne (OwedByOne normal key links l) found) (IsOk c.owe_all.result) c.args.out.now.items c.owe_all.new.out.items) c.clauses.ensures.value c.owe_all.ensures)
