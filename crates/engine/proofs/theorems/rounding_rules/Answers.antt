use Rattle.engine.specs.Floors.{rounding_rules_lem}
use Rattle.engine.proofs.theorems.rounding_rules.Goals as goal

pub returns : goal.returns
returns c = rounding_rules_lem
