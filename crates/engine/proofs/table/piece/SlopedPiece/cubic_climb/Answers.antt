-- The products fit 64 bits by bounds on their factors.
use mathlib.Core.Path.{subst₃}
use Rattle.std.proofs.Common.{◌*◌, ◌≤◌, pos, ◌+ℤ◌, refl, sym, ap, ◌∙◌, subst, subst₂, arith}
use Rattle.engine.proofs.PieceBounds.{Gauged, height_gain, slope_gain, slope_loss, cube_small, cube_some, loss_covered}
use Rattle.engine.proofs.PieceBounds.{climb_is, climb_small, cubic_of}
use Rattle.engine.proofs.table.piece.SlopedPiece.cubic_climb.Goals as goal

-- what is known of the piece
gauged : (c : goal.After-from-n) → Gauged c.width-h.result c.height-d.result c.from-m.result c.from-n.result c.args.u
gauged c =
    let w = sym c.width-h.ensures.is in
    let h = sym c.height-d.ensures.is in
    record {
      wide = c.width-h.ensures.some;
      near = c.width-h.ensures.near;
      low = c.height-d.ensures.low;
      inside = subst (λ w. c.args.u ≤ w) w c.requires;
      gentle = subst₃ (λ m w h. m * w ≤ 6144 * h) (sym c.from-m.ensures) w h c.args.self.gentle_start;
      gentle_end = subst₃ (λ n w h. n * w ≤ 6144 * h) (sym c.from-n.ensures) w h c.args.self.gentle_end;
    }

pub overflow_mul-gain-5 : goal.overflow_mul-gain-5
overflow_mul-gain-5 c = record { fits = omega (arith, height_gain (gauged c)) }

pub overflow_mul-gain-9 : goal.overflow_mul-gain-9
overflow_mul-gain-9 c = record { fits = omega (arith, slope_gain (gauged c)) }

pub overflow_add-gain-2 : goal.overflow_add-gain-2
overflow_add-gain-2 c = record { fits = omega (arith, height_gain (gauged c), slope_gain (gauged c)) }

pub overflow_mul-loss-4 : goal.overflow_mul-loss-4
overflow_mul-loss-4 c = record { fits = omega (arith, slope_loss (gauged c)) }

pub overflow_sub-gain : goal.overflow_sub-gain
overflow_sub-gain c = loss_covered (gauged c)

pub rounded-requires : goal.rounded-requires
rounded-requires c = record {
  some = cube_some (gauged c);
  low = omega (arith, height_gain (gauged c), slope_gain (gauged c));
  narrow = omega (arith, cube_small (gauged c));
}

pub returns : goal.returns
returns c =
    let g = gauged c.before in
    let h = c.width-h.result in
    let d = c.height-d.result in
    record {
      is = rw (← c.width-h.ensures.is, ← c.height-d.ensures.is, ← c.from-m.ensures, ← c.from-n.ensures)
          (cubic_of c.args.self.piece.from (c.args.self.piece.from.x +ℤ pos c.args.u) _ h d c.from-m.result c.from-n.result c.args.u
          c.rounded.result refl (ap pos c.rounded.ensures ∙ climb_is g) refl);
      small = subst₂ (λ r d. r ≤ d) (sym c.rounded.ensures) c.height-d.ensures.is (climb_small g);
    }
