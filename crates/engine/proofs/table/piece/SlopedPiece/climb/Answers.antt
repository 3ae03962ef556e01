use Rattle.std.proofs.Common.{◌+◌, ◌*◌, ◌/◌, ◌≤◌, pos, ◌+ℤ◌, refl, sym, subst}
use Rattle.engine.proofs.PieceBounds.{line_of, line_climb_is, line_climb_small}
use Rattle.engine.proofs.table.piece.SlopedPiece.climb.Goals as goal

pub returns-in-Line : goal.returns-in-Line
returns-in-Line c =
    let p = c.args.self.piece in
    let h = c.width-h.result in
    let d = c.height-d.result in
    let u = c.args.u in
    let inside : u ≤ h = subst (λ w. u ≤ w) (sym c.width-h.ensures.is) c.requires in
    record {
      is = rw (c.in-Line.is, ← c.width-h.ensures.is, ← c.height-d.ensures.is)
          (line_of p.from (p.from.x +ℤ pos u) _ h d u _ c.width-h.ensures.some inside refl
          (line_climb_is h d u c.width-h.ensures.some) refl);
      small = subst (λ n. (2 * d * u + h) / (2 * h) ≤ n) c.height-d.ensures.is
          (line_climb_small h d u c.width-h.ensures.some inside);
    }
