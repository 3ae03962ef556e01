-- What a curve of the code means, from the ghost members of its `impl Curve`.
use Rattle.engine.specs.Curves.{Meaning, meaning}
use Rattle.engine.specs.declared.curve.Curve.{Ghosts}

abbrev pub means : {C : Type 0} → Ghosts C → C → Meaning
means g c = meaning (g.V c) (g.E c) (g.S c) (g.R c)
