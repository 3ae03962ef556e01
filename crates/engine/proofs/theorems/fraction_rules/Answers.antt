use Rattle.engine.proofs.Arithmetic.{fraction_rules_lem}
use Rattle.engine.proofs.theorems.fraction_rules.Goals as goal

pub returns : goal.returns
returns c = fraction_rules_lem
