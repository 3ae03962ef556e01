use Rattle.std.proofs.Common.{◌*◌, ◌/◌, ◌<◌, pos, sym, ap, ◌∙◌, subst, ap₂, inl, inr, arith}
use Rattle.engine.specs.Neighbours.{piece_height, piece_width}
use Rattle.engine.proofs.StoredSlopes.{bottom_some, low, mean_flat, mean_is, mean_small, narrow, top_fits, wide}
use Rattle.engine.proofs.table.slopes.inner_slope.Goals as goal
use Rattle.engine.proofs.table.slopes.inner_slope.Goals.{then-height-eq0-via-then-height-eq0, then-height-eq0-via-else-height-eq0+then-height-eq0-2}

-- a flat piece
pub returns-then-height-eq0 : goal.returns-then-height-eq0
returns-then-height-eq0 c =
    let p = c.args.before in
    let q = c.args.after in
    mean_flat (piece_width p.from p.to) (piece_height p.from p.to) (piece_width q.from q.to) (piece_height q.from q.to)
    (elim c.then-height-eq0.branch [
      | then-height-eq0-via-then-height-eq0 w ↦ inl (sym c.height.ensures.is ∙ w.if-height-eq0.true)
      | then-height-eq0-via-else-height-eq0+then-height-eq0-2 w ↦
          inr (sym w.height-else-height-eq0.ensures.is ∙ w.if-height-eq0-2.true)
    ])

pub scaled-requires : goal.scaled-requires
scaled-requires c =
    let p = c.args.before in
    let q = c.args.after in
    let some : 0 < piece_height q.from q.to =
    omega (arith, c.if-height-eq0-2.false, c.height-else-height-eq0.ensures.is) in
    record {
      some = subst (λ n. 0 < n) (sym c.mean_bottom.ensures)
          (bottom_some (piece_width p.from p.to) (piece_height p.from p.to) (piece_width q.from q.to)
          (piece_height q.from q.to) (wide p.neighbours) some);
      fits = subst (λ n. n < 9007199254740992) (sym c.mean_top.ensures)
          (omega (
            arith,
            top_fits (piece_width p.from p.to) (piece_height p.from p.to) (piece_width q.from q.to)
                (piece_height q.from q.to) (narrow p.neighbours) (low p.neighbours) (narrow q.neighbours)
                (low q.neighbours),
          ));
    }

pub overflow_cast-result : goal.overflow_cast-result
overflow_cast-result c =
    let p = c.args.before in
    let q = c.args.after in
    let some : 0 < piece_height q.from q.to =
    omega (arith, c.if-height-eq0-2.false, c.height-else-height-eq0.ensures.is) in
    let small =
    mean_small (piece_width p.from p.to) (piece_height p.from p.to) (piece_width q.from q.to) (piece_height q.from q.to)
    (wide p.neighbours) some (low p.neighbours) in
    let quotient = c.scaled.ensures ∙ ap₂ (λ a b. 2048 * a / b) c.mean_top.ensures c.mean_bottom.ensures in
    record { fits = omega (arith, quotient, small) }

pub returns : goal.returns
returns c =
    let p = c.args.before in
    let q = c.args.after in
    ap pos (c.scaled.ensures ∙ ap₂ (λ a b. 2048 * a / b) c.mean_top.ensures c.mean_bottom.ensures)
    ∙ mean_is (piece_width p.from p.to) (piece_height p.from p.to) (piece_width q.from q.to) (piece_height q.from q.to)
    (wide p.neighbours) (λ e. c.if-height-eq0.false (c.height.ensures.is ∙ e))
    (λ e. c.if-height-eq0-2.false (c.height-else-height-eq0.ensures.is ∙ e))
