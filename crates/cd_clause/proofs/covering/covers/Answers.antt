use Rattle.std.proofs.Common.{◌-◌, length, take, drop, refl, sym, ◌∙◌}
use Rattle.std.proofs.lemmas.Bool.{both_ways, false≢true}
use Rattle.cd_base.proofs.Members.{any_member, any_by_member}
use Rattle.cd_clause.specs.Covering.{is_as_strong}
use Rattle.cd_clause.proofs.Strengths.{walk_begins, walk_goes, walk_ends, walk_stops}
use Rattle.cd_clause.proofs.Walks.{opened, closed}
use Rattle.cd_clause.proofs.covering.covers.Goals as goal

pub loop-wanted-init : goal.loop-wanted-init
loop-wanted-init c = walk_begins c.args.left.now c.args.right.now c.requires

pub loop-wanted-preserved : goal.loop-wanted-preserved
loop-wanted-preserved c =
    let rest = c.loop-wanted.wanted.now in
    walk_goes c.args.left.now c.args.right.now rest c.loop-wanted.rest.now c.not_lower-left_over.result.now c.elem-item.result (take (length rest - 1) (drop 1 rest))
    (opened rest c.elem-item.result c.in-len1-up.len_at_least c.elem-item.is) c.not_lower-left_over.ensures.lower c.loop-wanted.invariant c.not_lower-left_over.ensures.fewer
    (any_member (λ f. is_as_strong c.elem-item.result f) c.not_lower-left_over.result.now (sym c.has_weaker.ensures ∙ c.if-not-has_weaker.false))

pub returns-then-not-has_weaker : goal.returns-then-not-has_weaker
returns-then-not-has_weaker c = (
  λ t. absurd (false≢true t),
  λ w.
      (let rest = c.loop-wanted.wanted.now in
      let h = walk_stops c.args.left.now c.args.right.now rest c.loop-wanted.rest.now c.not_lower-left_over.result.now c.elem-item.result (take (length rest - 1) (drop 1 rest))
      (opened rest c.elem-item.result c.in-len1-up.len_at_least c.elem-item.is) c.not_lower-left_over.ensures.lower c.loop-wanted.invariant w in
      absurd (both_ways c.has_weaker.result c.if-not-has_weaker.true (c.has_weaker.ensures ∙ any_by_member (λ f. is_as_strong c.elem-item.result f) c.not_lower-left_over.result.now h.0 h.1 h.2))),
)

pub returns : goal.returns
returns c = (λ t. walk_ends c.args.left.now c.args.right.now c.loop-wanted.wanted.now c.loop-wanted.rest.now (closed c.loop-wanted.wanted.now c.in_default.len_below) c.loop-wanted.invariant, λ w. refl)
