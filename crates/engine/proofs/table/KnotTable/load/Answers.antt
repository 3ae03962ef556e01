use Rattle.std.proofs.lemmas.Result.{err_from_is_err_and}
use Rattle.engine.proofs.Faults.{faultless_lawful, names_first}
use Rattle.engine.proofs.table.KnotTable.load.Goals as goal

-- a knot is at fault
pub returns-in_err-check_knots-clause-blame : goal.returns-in_err-check_knots-clause-blame
returns-in_err-check_knots-clause-blame c =
    let p = err_from_is_err_and c.from_residual.result c.from_residual.ensures.1 in
    rw (p.1, p.2) (names_first c.args.ks.now _ c.in_err-check_knots.ensures)

pub new-requires-2-clause-ok : goal.new-requires-2-clause-ok
new-requires-2-clause-ok c = faultless_lawful c.args.ks.now c.in_ok-check_knots.ensures.0
