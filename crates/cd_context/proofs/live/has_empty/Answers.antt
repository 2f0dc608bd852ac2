use Rattle.std.proofs.Common.{◌<◌, ◌-◌, ◌==◌, ◌∙◌, ap, List, length, get_or, arith}
use Rattle.std.proofs.lemmas.Grind.{common_steps}
use Rattle.cd_base.proofs.Members.{member_get}
use Rattle.cd_clause.specs.declared.elem.Elem.{Elem}
use Rattle.cd_context.proofs.LiveClauses.{empty_at_last}
use Rattle.cd_context.proofs.live.has_empty.Goals as goal

pub offset_bounds-clauses-at : goal.offset_bounds-clauses-at
offset_bounds-clauses-at c =
    let h : get_or c.args.live.now (length c.args.live.now - 1) 0 < length c.args.clauses.now = c.requires.in_range _ (member_get c.args.live.now (length c.args.live.now - 1) 0 (omega arith)) in
    grind (arith, common_steps)

pub bounds-clauses-at : goal.bounds-clauses-at
bounds-clauses-at c = c.requires.in_range _ (member_get c.args.live.now (length c.args.live.now - 1) 0 (omega arith))

pub returns : goal.returns
returns c =
    empty_at_last c.args.clauses.now c.args.live.now c.index-clauses-at.result c.is_empty.result c.requires (omega arith) c.index-clauses-at.is
    (c.is_empty.ensures ∙ ap (λ (e : List Elem). length e == 0) c.elems.ensures.elems)
