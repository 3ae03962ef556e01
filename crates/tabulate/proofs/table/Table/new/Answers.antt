use Rattle.engine.specs.Means.{means}
use Rattle.tabulate.proofs.Laws.{faithful}
use Rattle.tabulate.proofs.table.Table.new.Goals as goal

-- the law of the rows comes from the rules that the curve keeps
pub returns-clause-law : goal.returns-clause-law
returns-clause-law g c =
    faithful (means g.C.Curve c.args.curve) (g.met.C.Curve.keeps c.args.curve) c.args.readings
