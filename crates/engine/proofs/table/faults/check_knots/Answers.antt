use Rattle.std.proofs.Common.{None, rules}
use Rattle.std.proofs.lemmas.Result.{err_from_is_err_and}
use Rattle.engine.specs.Edits.{first_fault}
use Rattle.engine.specs.Knots.{knot_at}
use Rattle.engine.proofs.Faults.{fault_here, fault_later, knot_passes, knot_refused}
use Rattle.engine.proofs.table.faults.check_knots.Goals as goal

-- the knot at hand is the first at fault
pub returns-in_err-map_err : goal.returns-in_err-map_err
returns-in_err-map_err c =
    let p = err_from_is_err_and c.from_residual.result c.from_residual.ensures.1 in
    let ks = c.args.ks.now in
    let i = c.loop-index.index-counter in
    rw (p.1, p.2)
    (fault_here ks (first_fault 0 None ks) i c.loop-index.before c.loop-index-test.true c.loop-index.invariant _
    (knot_refused i c.loop-index.before (knot_at ks i) _ c.check_knot.result _ (c.check_knot.ensures i)
    c.in_err-map_err.ensures.cases (λ r m. search rules)))

-- it is not
pub loop-index-preserved : goal.loop-index-preserved
loop-index-preserved c =
    let ks = c.args.ks.now in
    let i = c.loop-index.index-counter in
    fault_later ks (first_fault 0 None ks) i c.loop-index.before c.loop-index-test.true c.loop-index.invariant
    (knot_passes i c.loop-index.before (knot_at ks i) c.check_knot.result (c.check_knot.ensures i) c.in_ok-map_err.ensures.variant)
