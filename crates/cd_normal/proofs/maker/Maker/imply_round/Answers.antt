use Rattle.std.proofs.Common.{◌≡◌, rules, arith, ◌∙◌}
use Rattle.std.proofs.lemmas.Grind.{get_or_default_zero}
use Rattle.cd_normal.specs.Made.{atom_link}
use Rattle.cd_normal.proofs.Rounds.{round_more, round_all}
use Rattle.cd_normal.proofs.maker.Maker.imply_round.Goals as goal

pub loop-at-preserved : goal.loop-at-preserved
loop-at-preserved c = record {
  next = c.link.ensures.next ∙ c.loop-at.invariant.next;
  few = omega (arith, c.link.ensures.few, c.loop-at.invariant.few);
  adds = round_more c.args.self.now c.loop-at.self c.link.new.self atom_link c.args.xs.now c.args.ys.now c.requires.same_length c.loop-at.at c.wrapped-next.result _ _ c.loop-at-test.true c.wrapped-next.ensures.inner c.wrapped-next.ensures.last
      (let same : c.x.inside.0 ≡ c.index-xs-at.result = search rules in same ∙ c.index-xs-at.is ∙ get_or_default_zero c.args.xs.now c.loop-at.at c.index-xs-at.result c.loop-at-test.true)
      (c.index-ys-next.is ∙ get_or_default_zero c.args.ys.now c.wrapped-next.result c.index-ys-next.result c.wrapped-next.ensures.within)
      c.loop-at.invariant.adds c.in_ok-link.ensures.adds;
}

pub returns-clause-adds : goal.returns-clause-adds
returns-clause-adds c = round_all c.args.self.now c.loop-at.self atom_link c.args.xs.now c.args.ys.now c.requires.same_length (search rules)
