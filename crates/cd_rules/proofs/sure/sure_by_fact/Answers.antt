use Rattle.cd_base.proofs.Appending.{otherwise}
use Rattle.cd_rules.proofs.sure.sure_by_fact.Goals as goal

pub returns : goal.returns
returns c =
    let same = c.are_same.ensures.0 c.if-not-are_same.false in
    otherwise _ _ _ _ _ _ (λ d p. (same.0, same.1, p)) (λ h d p. p.2) (λ h. h) c.sure.ensures
