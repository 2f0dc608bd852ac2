use Rattle.std.proofs.Common.{refl}
use Rattle.cd_rules.proofs.Sures.{with_rest}
use Rattle.cd_rules.proofs.Pushed.{unpushed}
use Rattle.cd_rules.proofs.sure.sure_with.Goals as goal

pub returns-in-Some : goal.returns-in-Some
returns-in-Some c =
    let h = rw c.in-Some.is at c.in_ok-others.ensures in
    with_rest c.args.index.now.normal c.args.fact.now c.args.clause.now c.in-Some.others h.0 h.1 c.sure.ensures

pub returns-in-None : goal.returns-in-None
returns-in-None c =
    let h = rw c.in-None.is at c.in_ok-others.ensures in
    unpushed _ _ _ _ refl (λ done d p. h p.0)
