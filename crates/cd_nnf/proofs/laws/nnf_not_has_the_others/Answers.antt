use Rattle.cd_nnf.proofs.Members.{nnf_not_other}
use Rattle.cd_nnf.proofs.laws.nnf_not_has_the_others.Goals as goal

pub returns : goal.returns
returns c = nnf_not_other
