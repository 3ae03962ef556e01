use Rattle.std.proofs.Common.{arith}
use Rattle.engine.proofs.StoredSlopes.{bottom_fits}
use Rattle.engine.proofs.table.slopes.mean_bottom.Goals as goal

-- each product fits, and so does their sum
pub overflow_add-result-3 : goal.overflow_add-result-3
overflow_add-result-3 c = record {
  fits = omega (
    arith,
    bottom_fits c.width-ha.result c.height-da.result c.width-hb.result c.height-db.result c.width-ha.ensures.near
        c.height-da.ensures.low c.width-hb.ensures.near c.height-db.ensures.low,
  );
}
