use Rattle.std.proofs.Common.{◌+◌, ◌<◌, length, sym, subst₂, arith, slice_index_or}
use Rattle.engine.specs.Edits.{knots_of}
use Rattle.engine.specs.Neighbours.{Gentle}
use Rattle.engine.proofs.Lists.{enough}
use Rattle.engine.proofs.TableValues.{gentle_start, gentle_end}
use Rattle.engine.proofs.table.KnotTable.piece.Goals as goal

pub new-requires : goal.new-requires
new-requires c =
    let t = c.args.self.now in
    let i = c.args.i in
    let p = sym c.piece.ensures.from in
    let q = sym c.piece.ensures.to in
    let before : i < length (knots_of t) = omega (arith, c.requires) in
    record {
      start = subst₂ (λ p q. Gentle p q (slice_index_or t.slopes i 0)) p q
          (gentle_start (knots_of t) (enough t.list) t.list.ok i c.requires _ (t.steep i before));
      end = subst₂ (λ p q. Gentle p q (slice_index_or t.slopes (i + 1) 0)) p q
          (gentle_end (knots_of t) (enough t.list) t.list.ok i c.requires _ (t.steep (i + 1) c.requires));
    }
