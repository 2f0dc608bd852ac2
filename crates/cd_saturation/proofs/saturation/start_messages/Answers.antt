use Rattle.std.proofs.Common.{◌++◌, ◌∷◌, [], ap, ◌∙◌}
use Rattle.cd_saturation.specs.Saturation.{start_at}
use Rattle.cd_saturation.proofs.Runs.{starts_more}
use Rattle.cd_saturation.proofs.saturation.start_messages.Goals as goal

pub loop-class-preserved : goal.loop-class-preserved
loop-class-preserved c =
    starts_more c.args.count c.loop-class.class c.loop-class.start.items c.push.new.self.items c.loop-class.invariant
    (c.in_ok-push.ensures.items ∙ ap (λ x. c.loop-class.start.items ++ x ∷ []) (c.start_message.ensures ∙ ap (start_at c.args.count) c.single.ensures))
