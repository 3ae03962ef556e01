use Rattle.std.proofs.Common.{rules}
use Rattle.engine.specs.Holds.{hold_coordinate}
use Rattle.engine.proofs.layer.offset.OffsetCurve.value.Goals as goal

-- the value below is a coordinate, by the rules of the curve below
pub overflow_add-moved : goal.overflow_add-moved
overflow_add-moved g c =
    let inside = (g.met.C.Curve.keeps c.args.self.now.below).value_fits _ (hold_coordinate c.args.x) in search rules

pub returns : goal.returns
returns g c =
    let inside = (g.met.C.Curve.keeps c.args.self.now.below).value_fits _ (hold_coordinate c.args.x) in
    search rules
