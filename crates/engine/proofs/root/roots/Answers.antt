use Rattle.std.proofs.Common.{refl}
use Rattle.engine.specs.Roots.{table_holds}
use Rattle.engine.proofs.root.roots.Goals as goal

-- one test over the whole table, which antt computes
pub returns : goal.returns
returns c = table_holds _ refl refl
