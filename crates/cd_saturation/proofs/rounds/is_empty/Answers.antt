use Rattle.std.proofs.Common.{sym, subst}
use Rattle.cd_saturation.specs.Decided.{IsTrueTestOf}
use Rattle.cd_saturation.specs.Saturation.{HasBegun}
use Rattle.cd_saturation.proofs.GroupKeys.{group_test}
use Rattle.cd_saturation.proofs.rounds.is_empty.Goals as goal

pub has_empty-empty-requires-clause-begun : goal.has_empty-empty-requires-clause-begun
has_empty-empty-requires-clause-begun c = subst (λ k. HasBegun c.args.count c.args.cells.now k) (sym c.in_ok-key.ensures) c.requires.begun

pub returns : goal.returns
returns c = λ n e.
    group_test n c.args.group.now.class c.args.group.now.names c.has_empty-empty.result
    (subst (λ k. IsTrueTestOf n k c.has_empty-empty.result) c.in_ok-key.ensures (c.has_empty-empty.ensures n e))
