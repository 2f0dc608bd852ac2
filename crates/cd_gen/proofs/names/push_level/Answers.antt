use Rattle.cd_gen.proofs.Levels.{four_more}
use Rattle.cd_gen.proofs.names.push_level.Goals as goal

pub returns : goal.returns
returns c =
    four_more c.args.found.now.items c.push.new.self.items c.push-2.new.self.items c.push-3.new.self.items c.push-4.new.self.items
    _ _ _ _ _ _ _ _ c.in_ok-level_iri.ensures c.in_ok-level_iri-2.ensures c.in_ok-level_iri-3.ensures c.in_ok-level_iri-4.ensures
    c.in_ok-push.ensures.items c.in_ok-push-2.ensures.items c.in_ok-push-3.ensures.items c.in_ok-push-4.ensures.items
