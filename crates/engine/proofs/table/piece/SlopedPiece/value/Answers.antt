use Rattle.std.proofs.Common.{◌≡◌, pos, ◌+ℤ◌, ap, ◌∙◌, arith, w32, SFits, rules}
use Rattle.std.proofs.lemmas.Int.{ints, to_z-of_z, to_z_pos}
use Rattle.engine.specs.Neighbours.{piece_value}
use Rattle.engine.proofs.StoredSlopes.{climbed_fits, low}
use Rattle.engine.proofs.table.piece.SlopedPiece.value.Goals as goal

pub overflow_add-result : goal.overflow_add-result
overflow_add-result c =
    let p = c.args.self.piece in
    let y_fits : SFits w32 p.from.y = search rules in
    let as_it_is = to_z_pos w32 c.climb.result (omega (arith, low p.neighbours, c.climb.ensures.small)) in
    rw (to_z-of_z w32 p.from.y y_fits, as_it_is) (climbed_fits p.neighbours c.climb.result c.climb.ensures.small)

pub returns : goal.returns
returns c =
    let p = c.args.self.piece in
    let x_fits = c.ranges.x in
    let y_fits : SFits w32 p.from.y = search rules in
    let as_it_is = to_z_pos w32 c.climb.result (omega (arith, low p.neighbours, c.climb.ensures.small)) in
    let fits = climbed_fits p.neighbours c.climb.result c.climb.ensures.small in
    let at : (p.from.x +ℤ pos c.from-u.result) ≡ c.args.x = omega (arith, ints) in
    rw (to_z-of_z w32 p.from.y y_fits, as_it_is, to_z-of_z w32 _ fits)
    (c.climb.ensures.is ∙ ap (piece_value c.args.kind p.from p.to (pos c.args.self.start_slope) (pos c.args.self.end_slope)) at)
