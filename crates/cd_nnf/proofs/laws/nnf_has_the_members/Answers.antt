use Rattle.cd_nnf.proofs.Members.{nnf_same}
use Rattle.cd_nnf.proofs.laws.nnf_has_the_members.Goals as goal

pub returns : goal.returns
returns c = nnf_same
