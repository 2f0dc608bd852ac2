use Rattle.std.proofs.Common.{◌≡◌, ◌<◌, true, refl, ◌∙◌, ap, subst, sym, List, length, get_or, arith}
use Rattle.std.specs.Result.{IsOk}
use Rattle.std.proofs.lemmas.List.{get_or_default}
use Rattle.cd_base.specs.declared.normal.Conj.{Conj}
use Rattle.cd_base.specs.declared.normal.Normal.{Normal}
use Rattle.cd_rules.specs.Parts.{IsRightOf}
use Rattle.cd_rules.specs.Steps.{IsFree}
use Rattle.cd_rules.proofs.Inits.{free_number_in, free_of_numbers, numbers_of_free}
use Rattle.cd_rules.proofs.Pushed.{failed}
use Rattle.cd_base.proofs.Appending.{walk_ends_as, walk_goes, walk_item, walk_stops_as}
use Rattle.cd_rules.proofs.Among.{among_grows}
use Rattle.cd_rules.proofs.init.free.Goals as goal

pub push_right-requires : goal.push_right-requires
push_right-requires c =
    let axioms = c.items-axioms.result.now in
    let n = c.args.index.now.normal in
    let same : n.n1 ≡ axioms = sym (c.items-axioms.ensures ∙ ap (λ (m : Normal). m.n1) c.normal.ensures) in
    let isin = walk_item (IsRightOf axioms) c.free-rest.result.now c.axioms.rest.now 0 c.args.out.now.items c.axioms.out.items c.axioms.invariant c.in-len1-up.len_at_least in
    let lt : get_or c.axioms.rest.now 0 0 < length n.n1 = free_number_in n c.free-rest.result.now (get_or c.axioms.rest.now 0 0) c.free-rest.ensures isin in
    subst (λ (l : List Conj). get_or c.axioms.rest.now 0 0 < length l) same lt

pub returns-in_err-push_right : goal.returns-in_err-push_right
returns-in_err-push_right c =
    let axioms = c.items-axioms.result.now in
    let n = c.args.index.now.normal in
    let same : axioms ≡ n.n1 = c.items-axioms.ensures ∙ ap (λ (m : Normal). m.n1) c.normal.ensures in
    walk_stops_as among_grows (IsRightOf axioms) (IsFree n) c.free-rest.result.now c.axioms.rest.now (get_or c.axioms.rest.now 0 0)
    (IsOk c.push_right.result) (IsOk c.from_residual.result) c.args.out.now.items c.axioms.out.items c.push_right.new.out.items
    c.axioms.invariant c.in-len1-up.len_at_least (get_or_default c.axioms.rest.now 0 0 (get_or c.axioms.rest.now 0 0) (omega (arith, c.in-len1-up.len_at_least)))
    c.push_right.ensures (failed c.from_residual.result c.from_residual.ensures.0)
    (λ d q. free_of_numbers n axioms c.free-rest.result.now d same c.free-rest.ensures q)

pub axioms-preserved : goal.axioms-preserved
axioms-preserved c =
    walk_goes among_grows (IsRightOf c.items-axioms.result.now) c.free-rest.result.now c.axioms.rest.now _ (get_or c.axioms.rest.now 0 0) (true ≡ true)
    c.args.out.now.items c.axioms.out.items c.push_right.new.out.items
    c.axioms.invariant refl c.in-len1-up.len_at_least (get_or_default c.axioms.rest.now 0 0 (get_or c.axioms.rest.now 0 0) (omega (arith, c.in-len1-up.len_at_least)))
    c.in_ok-push_right.ensures refl

pub returns : goal.returns
returns c =
    let axioms = c.items-axioms.result.now in
    let n = c.args.index.now.normal in
    let same : axioms ≡ n.n1 = c.items-axioms.ensures ∙ ap (λ (m : Normal). m.n1) c.normal.ensures in
    walk_ends_as (IsRightOf axioms) (IsFree n) c.free-rest.result.now c.axioms.rest.now
    (true ≡ true) c.args.out.now.items c.axioms.out.items c.axioms.invariant c.in_default.len_below
    (λ d q. free_of_numbers n axioms c.free-rest.result.now d same c.free-rest.ensures q)
    (λ d p. numbers_of_free n axioms c.free-rest.result.now d same c.free-rest.ensures p)
