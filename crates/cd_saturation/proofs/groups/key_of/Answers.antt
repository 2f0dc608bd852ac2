use Rattle.std.proofs.Common.{[], ◌∷◌, ap, ◌∙◌, refl}
use Rattle.cd_base.specs.Keys.{plain}
use Rattle.cd_saturation.specs.Groups.{with_negated}
use Rattle.cd_saturation.proofs.Walks.{names_end, names_go}
use Rattle.cd_saturation.proofs.groups.key_of.Goals as goal

pub names-init : goal.names-init
names-init c =
    ap (λ k. with_negated k c.items-rest.result.now) c.single-key.ensures ∙ ap (λ names. with_negated (plain c.args.group.now.class ∷ []) names) c.items-rest.ensures

pub names-preserved : goal.names-preserved
names-preserved c = names_go c.names.key c.in_ok-key.key c.names.rest.now _ c.name-item.result _ refl c.in-len1-up.len_at_least c.name-item.is c.in_ok-key.ensures c.names.invariant

pub returns : goal.returns
returns c = names_end c.names.key c.names.rest.now _ c.in_default.len_below c.names.invariant
