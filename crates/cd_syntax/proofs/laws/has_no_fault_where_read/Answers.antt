use Rattle.cd_syntax.proofs.NoFault.{no_fault}
use Rattle.cd_syntax.proofs.laws.has_no_fault_where_read.Goals as goal

pub returns : goal.returns
returns c = no_fault
