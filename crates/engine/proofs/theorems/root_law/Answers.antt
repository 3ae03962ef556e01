use Rattle.engine.specs.RootRules.{root_law_lem}
use Rattle.engine.proofs.theorems.root_law.Goals as goal

pub returns : goal.returns
returns c = root_law_lem
