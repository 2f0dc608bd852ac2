use Rattle.std.proofs.Common.{rules, arith, refl, ◌∙◌}
use Rattle.cd_normal.specs.Made.{role_link}
use Rattle.cd_normal.proofs.Rounds.{round_more, round_all}
use Rattle.cd_normal.proofs.maker.Maker.under_round.Goals as goal

pub loop-at-preserved : goal.loop-at-preserved
loop-at-preserved c = record {
  next = c.add_role.ensures.next ∙ c.loop-at.invariant.next;
  few = omega (arith, c.add_role.ensures.few, c.loop-at.invariant.few);
  adds = round_more c.args.self.now c.loop-at.self c.add_role.new.self role_link c.args.roles.now c.args.roles.now refl c.loop-at.at c.wrapped-next.result _ _ c.loop-at-test.true c.wrapped-next.ensures.inner c.wrapped-next.ensures.last (search rules) (search rules) c.loop-at.invariant.adds c.in_ok-add_role.ensures.adds;
}

pub returns-clause-adds : goal.returns-clause-adds
returns-clause-adds c = round_all c.args.self.now c.loop-at.self role_link c.args.roles.now c.args.roles.now refl (search rules)
