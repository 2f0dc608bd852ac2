use Rattle.std.proofs.Common.{◌⊎◌, ◌↔◌, ◌<◌, ℕ, List, [], length, get_or, subst, arith}
use Rattle.std.proofs.lemmas.Grind.{common_steps}
use Rattle.std.proofs.lemmas.List.{get_or_read}
use Rattle.cd_base.specs.Lists.{OneOf}
use Rattle.cd_base.proofs.Members.{member_get}
use Rattle.cd_clause.specs.declared.elem.Elem.{Elem}
use Rattle.cd_clause.specs.Elements.{IsCase}
use Rattle.cd_rules.proofs.Gathered.{gather_ends, gather_goes}
use Rattle.cd_context.proofs.OpenNames.{OpensAt, OpensSome, opens_somewhere}
use Rattle.cd_context.proofs.open.push_all_open.Goals as goal

pub offset_bounds-clauses-at : goal.offset_bounds-clauses-at
offset_bounds-clauses-at c =
    let h : get_or c.args.live.now c.loop-i.i 0 < length c.args.clauses.now = c.requires _ (member_get c.args.live.now c.loop-i.i 0 c.loop-i-test.true) in
    grind (arith, common_steps)

pub bounds-clauses-at : goal.bounds-clauses-at
bounds-clauses-at c = c.requires _ (member_get c.args.live.now c.loop-i.i 0 c.loop-i-test.true)

pub loop-i-preserved : goal.loop-i-preserved
loop-i-preserved c =
    let at : ℕ = get_or c.args.live.now c.loop-i.i 0 in
    let is = get_or_read c.args.clauses.now at c.index-clauses-at.result (c.requires _ (member_get c.args.live.now c.loop-i.i 0 c.loop-i-test.true)) c.index-clauses-at.is [] in
    gather_goes (OpensAt c.args.normal.now c.args.clauses.now c.args.live.now) c.loop-i.i c.args.atoms.now.items c.loop-i.atoms.items c.loop-i.invariant c.push_open.new.atoms.items
    (λ b. subst (λ (d : List Elem). OneOf b c.push_open.new.atoms.items ↔ (OneOf b c.loop-i.atoms.items ⊎ IsCase c.args.normal.now b d)) is (c.in_ok-push_open.ensures b))

pub returns : goal.returns
returns c = gather_ends (OpensAt c.args.normal.now c.args.clauses.now c.args.live.now) c.loop-i.i (length c.args.live.now) c.args.atoms.now.items c.loop-i.atoms.items
    (OpensSome c.args.normal.now c.args.clauses.now c.args.live.now) c.loop-i.invariant (omega (arith, c.loop-i-test.false)) (opens_somewhere c.args.normal.now c.args.clauses.now c.args.live.now)
