use Rattle.std.proofs.Common.{◌≡◌, List, subst}
use Rattle.cd_base.specs.Lists.{OneOf}
use Rattle.cd_saturation.specs.declared.group.Group.{Group}
use Rattle.cd_saturation.proofs.rounds.decide_groups.Goals as goal

pub decide_each-done-requires-clause-classes : goal.decide_each-done-requires-clause-classes
decide_each-done-requires-clause-classes c =
    let same : c.deref.result.now ≡ c.args.groups.now.items = cc in
    λ g m. c.requires.classes g (subst (λ (z : List Group). OneOf g z) same m)
