-- Readings worked by hand, by computation.
use Rattle.std.proofs.Common.{pos, sym, refl, ap, arith}
use Rattle.engine.specs.Fraction.{◌+ᶠ◌, ◌-ᶠ◌, ◌*ᶠ◌, ◌/ᶠ◌}
use Rattle.engine.specs.Pieces.{width, height, piecewise, line_exact, line_from}
use Rattle.engine.specs.Roots.{root_is}
use Rattle.engine.specs.Tables.{secant, inner_slope, end_slope, slope, cubic_N, cubic_value, value_from, table_value}
use Rattle.engine.specs.Tables.{greatest, table_rise}
use Rattle.engine.specs.Theorems.{WorkedReadings}

pub worked_readings_lem : WorkedReadings
unfolding ◌+ᶠ◌ ◌-ᶠ◌ ◌*ᶠ◌ ◌/ᶠ◌ width height piecewise line_exact line_from secant inner_slope end_slope slope cubic_N
    cubic_value value_from table_value greatest table_rise
worked_readings_lem = record {
  step_before = refl;
  step_9 = refl;
  step_10 = refl;
  step_8191 = refl;
  step_rise = refl;
  cubic_slope_0 = refl;
  cubic_slope_1 = refl;
  cubic_slope_2 = refl;
  cubic_5 = refl;
  cubic_15 = refl;
  cubic_rise = refl;
  uneven_slope = refl;
  line_half = refl;
  chain_15 = refl;
  chain_rise = refl;
  chain_radius = refl;
  root_before = ap pos (sym (root_is 0 0 (omega arith) (omega arith)));
  root_0 = ap pos (sym (root_is 0 0 (omega arith) (omega arith)));
  root_1 = ap pos (sym (root_is 256 65536 (omega arith) (omega arith)));
  root_2 = ap pos (sym (root_is 362 131072 (omega arith) (omega arith)));
  root_1023 = ap pos (sym (root_is 8187 67043328 (omega arith) (omega arith)));
  root_beyond = ap pos (sym (root_is 8187 67043328 (omega arith) (omega arith)));
}
