use Rattle.cd_nnf.proofs.Shapes.{are_nnf}
use Rattle.cd_nnf.proofs.laws.nnf_has_names_under_minus.Goals as goal

pub returns : goal.returns
returns c = are_nnf
