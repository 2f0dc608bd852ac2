use Rattle.std.proofs.Common.{◌≡◌, ◌<◌, List, true, refl, subst, length, get_or, [], arith}
use Rattle.std.specs.Result.{IsOk}
use Rattle.std.proofs.lemmas.Grind.{common_steps}
use Rattle.std.proofs.lemmas.List.{get_or_read}
use Rattle.cd_clause.specs.declared.elem.Elem.{Elem}
use Rattle.cd_base.specs.Appends.{Appends}
use Rattle.cd_base.specs.Lists.{OneOf}
use Rattle.cd_base.proofs.Appending.{failed, member_grows, next_member, walk_ends, walk_goes, walk_stops}
use Rattle.cd_context.specs.OwedParts.{IsToldBy}
use Rattle.cd_context.proofs.Owed.{first_read, ToldByOne}
use Rattle.cd_context.proofs.owing.tell_all.Goals as goal

pub offset_bounds-clauses-number : goal.offset_bounds-clauses-number
offset_bounds-clauses-number c =
    let Q = ToldByOne c.args.index.now.normal c.args.key.now c.args.links.now c.args.clauses.now in
    let rest = c.numbers.rest.now in
    let below : get_or rest 0 0 < length c.args.clauses.now
    = c.requires _ (next_member Q c.args.numbers.now rest (get_or rest 0 0) c.args.out.now.items c.numbers.out.items c.numbers.invariant c.in-len1-up.len_at_least (first_read rest c.in-len1-up.len_at_least)) in
    grind (arith, common_steps)

pub bounds-clauses-number : goal.bounds-clauses-number
bounds-clauses-number c =
    let Q = ToldByOne c.args.index.now.normal c.args.key.now c.args.links.now c.args.clauses.now in
    let rest = c.numbers.rest.now in
    c.requires _ (next_member Q c.args.numbers.now rest (get_or rest 0 0) c.args.out.now.items c.numbers.out.items c.numbers.invariant c.in-len1-up.len_at_least (first_read rest c.in-len1-up.len_at_least))

pub returns-in_err-tell : goal.returns-in_err-tell
returns-in_err-tell c =
    let Q = ToldByOne c.args.index.now.normal c.args.key.now c.args.links.now c.args.clauses.now in
    let clauses = c.args.clauses.now in
    let rest = c.numbers.rest.now in
    let first = first_read rest c.in-len1-up.len_at_least in
    let below : get_or rest 0 0 < length clauses
    = c.requires _ (next_member Q c.args.numbers.now rest (get_or rest 0 0) c.args.out.now.items c.numbers.out.items c.numbers.invariant c.in-len1-up.len_at_least first) in
    let noted = subst (λ (d : List Elem). Appends OneOf (IsToldBy c.args.index.now.normal c.args.key.now c.args.links.now d) (IsOk c.tell.result) c.numbers.out.items c.tell.new.out.items)
    (get_or_read clauses (get_or rest 0 0) c.index-clauses-number.result below c.index-clauses-number.is []) c.tell.ensures in
    walk_stops member_grows Q c.args.numbers.now rest (get_or rest 0 0) (IsOk c.tell.result) (IsOk c.from_residual.result) c.args.out.now.items c.numbers.out.items c.tell.new.out.items
    c.numbers.invariant c.in-len1-up.len_at_least first noted (failed c.from_residual.result c.from_residual.ensures.0)

pub numbers-preserved : goal.numbers-preserved
numbers-preserved c =
    let Q = ToldByOne c.args.index.now.normal c.args.key.now c.args.links.now c.args.clauses.now in
    let clauses = c.args.clauses.now in
    let rest = c.numbers.rest.now in
    let first = first_read rest c.in-len1-up.len_at_least in
    let below : get_or rest 0 0 < length clauses
    = c.requires _ (next_member Q c.args.numbers.now rest (get_or rest 0 0) c.args.out.now.items c.numbers.out.items c.numbers.invariant c.in-len1-up.len_at_least first) in
    let noted = subst (λ (d : List Elem). Appends OneOf (IsToldBy c.args.index.now.normal c.args.key.now c.args.links.now d) (true ≡ true) c.numbers.out.items c.tell.new.out.items)
    (get_or_read clauses (get_or rest 0 0) c.index-clauses-number.result below c.index-clauses-number.is []) c.in_ok-tell.ensures in
    walk_goes member_grows Q c.args.numbers.now rest _ (get_or rest 0 0) (true ≡ true) c.args.out.now.items c.numbers.out.items c.tell.new.out.items
    c.numbers.invariant refl c.in-len1-up.len_at_least first noted refl

pub returns : goal.returns
returns c =
    walk_ends (ToldByOne c.args.index.now.normal c.args.key.now c.args.links.now c.args.clauses.now) c.args.numbers.now c.numbers.rest.now (true ≡ true) c.args.out.now.items c.numbers.out.items
    c.numbers.invariant c.in_default.len_below
