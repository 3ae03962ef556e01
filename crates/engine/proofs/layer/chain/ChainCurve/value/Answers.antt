use Rattle.std.proofs.Common.{rules}
use Rattle.engine.specs.Holds.{hold_coordinate, hold_inside}
use Rattle.engine.proofs.layer.chain.ChainCurve.value.Goals as goal

-- the outer curve is asked at a coordinate, which is held to itself
pub returns : goal.returns
returns g c =
    let same = hold_inside _ ((g.met.F.Curve.keeps c.args.self.now.inner).value_fits _ (hold_coordinate c.args.x)) in
    search rules
