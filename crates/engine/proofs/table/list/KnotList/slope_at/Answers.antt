use Rattle.std.proofs.Common.{◌∙◌, arith}
use Rattle.engine.specs.Lists.{listed}
use Rattle.engine.proofs.StoredSlopes.{slope_first, slope_last, slope_inner}
use Rattle.engine.proofs.table.list.KnotList.slope_at.Goals as goal

pub returns-then-i-eq0 : goal.returns-then-i-eq0
returns-then-i-eq0 c =
    slope_first (listed c.args.self.now) c.args.i c.end_slope.result _ _ c.if-i-eq0.true c.piece.ensures.from
    c.piece.ensures.to c.end_slope.ensures

pub returns-then-i-len : goal.returns-then-i-len
returns-then-i-len c =
    slope_last (listed c.args.self.now) c.args.i c.end_slope-then-i-len.result _ _ (omega (arith, c.if-i-eq0.false))
    (c.if-i-len.true ∙ c.len.ensures) c.piece-then-i-len.ensures.from c.piece-then-i-len.ensures.to
    c.end_slope-then-i-len.ensures

pub returns : goal.returns
returns c =
    slope_inner (listed c.args.self.now) c.args.i c.inner_slope.result _ _ _ _ (omega (arith, c.if-i-eq0.false))
    (omega (arith, c.if-i-len.false, c.len.ensures, c.requires)) c.piece-2.ensures.from c.piece-2.ensures.to
    c.piece-3.ensures.from c.piece-3.ensures.to c.inner_slope.ensures
