use Rattle.engine.proofs.Worked.{worked_readings_lem}
use Rattle.engine.proofs.theorems.worked_readings.Goals as goal

pub returns : goal.returns
returns c = worked_readings_lem
