use Rattle.std.proofs.Common.{rules, arith, ◌∙◌}
use Rattle.cd_normal.proofs.Making.{link_more}
use Rattle.cd_normal.proofs.maker.Maker.imply_each.Goals as goal

pub loop-y-preserved : goal.loop-y-preserved
loop-y-preserved c = (
  c.link.ensures.next ∙ c.loop-y.invariant.0,
  omega (arith, c.link.ensures.few, c.loop-y.invariant.1),
  link_more c.args.self.now c.loop-y.self c.link.new.self c.args.outward c.args.x c.args.ys.now c.loop-y.y-index c.y-item.result c.loop-y-test.true c.y-item.is c.loop-y.invariant.2 (search rules),
)
