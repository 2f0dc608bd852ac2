use Rattle.std.proofs.Common.{◌≡◌, ◌+◌, ◌≤◌, [], length, nat_eq, get_or, subst, sym, ap, ◌∙◌, arith}
use Rattle.indexmap.specs.IndexSet.{insert_all}
use Rattle.std.proofs.lemmas.List.{get_or_default, nil_from_length}
use Rattle.cd_index.proofs.Reached.{IsUnderWay, at_start, here_within, one_more, at_end, few}
use Rattle.cd_index.proofs.walk.reached_from.Goals as goal

pub loop-next-init : goal.loop-next-init
loop-next-init c =
    let told = c.args.told.now in
    let list : c.items.result.now ≡ get_or told c.args.role []
    = c.items.ensures ∙ c.index-told-role.is ∙ get_or_default told c.args.role c.index-told-role.result [] c.requires.role in
    let empty : c.new-reached.result.keys ≡ [] = nil_from_length c.new-reached.result.keys c.new-reached.ensures.len in
    subst (IsUnderWay told c.args.role 0) (sym (c.in_ok-insert_all.ensures ∙ ap (λ ks. insert_all nat_eq ks c.items.result.now) empty ∙ ap (insert_all nat_eq []) list))
    (at_start told c.args.role c.requires.within c.requires.role)

pub bounds-told-at : goal.bounds-told-at
bounds-told-at c =
    here_within c.args.told.now c.args.role c.requires.within c.loop-next.next c.index.result.now c.loop-next.reached.keys c.loop-next.invariant c.index.ensures

pub loop-next-smaller : goal.loop-next-smaller
loop-next-smaller c =
    let most : length c.loop-next.reached.keys ≤ length c.args.told.now
    = few c.args.told.now c.args.role c.requires.within c.loop-next.next c.loop-next.reached.keys c.loop-next.invariant c.len.ensures.unique in
    omega arith

pub loop-next-preserved : goal.loop-next-preserved
loop-next-preserved c =
    let told = c.args.told.now in
    let ks = c.loop-next.reached.keys in
    let at = c.index.result.now in
    let lt = here_within told c.args.role c.requires.within c.loop-next.next at ks c.loop-next.invariant c.index.ensures in
    let list : c.items-in-loop-next.result.now ≡ get_or told at []
    = c.items-in-loop-next.ensures ∙ c.index-told-at.is ∙ get_or_default told at c.index-told-at.result [] lt in
    subst (IsUnderWay told c.args.role (c.loop-next.next + 1)) (sym (c.in_ok-insert_all-2.ensures ∙ ap (insert_all nat_eq ks) list))
    (one_more told c.args.role c.requires.within c.loop-next.next at ks c.loop-next.invariant c.index.ensures)

pub returns : goal.returns
returns c =
    at_end c.args.told.now c.args.role c.requires.within c.loop-next.next c.loop-next.reached.keys c.loop-next.invariant (omega arith)
