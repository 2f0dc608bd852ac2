use Rattle.cd_cell.proofs.TrueAnswers.{same_readings}
use Rattle.cd_cell.proofs.laws.same_readings.Goals as goal

pub returns : goal.returns
returns c = same_readings
