use Rattle.std.proofs.Common.{◌*◌, ◌/◌, ◌<◌, pos, ap, ◌∙◌, subst, ap₂}
use Rattle.engine.specs.Neighbours.{piece_height, piece_width}
use Rattle.engine.proofs.StoredSlopes.{stored_over}
use Rattle.engine.proofs.table.slopes.end_slope.Goals as goal

pub returns : goal.returns
returns c =
    ap pos c.scaled.ensures
    ∙ ap₂ (λ d h. pos (2048 * d / h)) c.height.ensures.is c.width.ensures.is
    ∙ stored_over (piece_height c.args.p.from c.args.p.to) (piece_width c.args.p.from c.args.p.to)
    (subst (λ h. 0 < h) c.width.ensures.is c.width.ensures.some)
