use Rattle.std.proofs.Common.{set, ap}
use Rattle.std.proofs.lemmas.Result.{on_ok_weaker}
use Rattle.cd_actor.proofs.At.{at_index}
use Rattle.cd_saturation.proofs.rounds.add_name.Goals as goal

pub returns : goal.returns
returns c =
    on_ok_weaker c.push_name.result
    (λ e. (c.index_mut-answer.result.now, at_index _ _ _ c.requires c.index_mut-answer.ensures.value, ap (λ z. set c.args.above.now.items c.args.class z) e)) c.push_name.ensures
