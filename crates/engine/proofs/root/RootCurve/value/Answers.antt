use Rattle.std.proofs.Common.{◌≡◌, pos, arith, rules, unsigned_abs}
use Rattle.std.proofs.lemmas.Int.{ints}
use Rattle.engine.specs.Coordinates.{hold, lowest, highest}
use Rattle.engine.specs.Roots.{entry_is}
use Rattle.engine.proofs.root.RootCurve.value.Goals as goal

pub returns : goal.returns
returns c =
    let slot : c.clamp.result ≡ hold (pos 0) (pos 1023) (hold lowest highest c.args.x) = grind (arith, ints) in
    let entry = entry_is c.roots.result.now c.roots.ensures (unsigned_abs c.clamp.result) (omega (arith, ints)) in
    search rules
