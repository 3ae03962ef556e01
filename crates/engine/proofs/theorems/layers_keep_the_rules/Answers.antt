use Rattle.engine.specs.Layers.{layers_keep}
use Rattle.engine.proofs.theorems.layers_keep_the_rules.Goals as goal

pub returns : goal.returns
returns c = layers_keep
