use Rattle.engine.specs.RootRules.{plain_curves_keep}
use Rattle.engine.proofs.theorems.plain_curves_keep_the_rules.Goals as goal

pub returns : goal.returns
returns c = plain_curves_keep
