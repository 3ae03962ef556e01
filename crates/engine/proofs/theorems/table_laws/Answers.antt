use Rattle.engine.proofs.TableLaws.{table_laws_lem}
use Rattle.engine.proofs.theorems.table_laws.Goals as goal

pub returns : goal.returns
returns c = table_laws_lem
