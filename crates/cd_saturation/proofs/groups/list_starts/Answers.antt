use Rattle.std.proofs.Common.{[], ◌∷◌, ◌++◌, ap, ◌∙◌, refl}
use Rattle.cd_saturation.specs.Saturation.{start_at}
use Rattle.cd_saturation.proofs.Walks.{starts_end, starts_go}
use Rattle.cd_saturation.proofs.groups.list_starts.Goals as goal

pub groups-preserved : goal.groups-preserved
groups-preserved c =
    starts_go c.args.count c.groups.start.items c.push.new.self.items _ c.groups.rest.now _ c.group-item.result refl c.in-len1-up.len_at_least c.group-item.is
    (c.in_ok-push.ensures.items ∙ ap (λ x. c.groups.start.items ++ x ∷ []) (c.start_message.ensures ∙ ap (start_at c.args.count) c.in_ok-key_of.ensures)) c.groups.invariant

pub returns : goal.returns
returns c = starts_end c.args.count c.groups.start.items _ c.groups.rest.now c.in_default.len_below c.groups.invariant
