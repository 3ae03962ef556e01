-- Bands: pairs of coordinates a, b with a at most b. The readings of a band are those from a to b.
use Rattle.std.specs.Prelude.{◌≡◌, Bool, if◌then◌else◌, not, ◌&&◌, ℤ, Some, None, Option, int_le, int_lt}
use Rattle.engine.specs.Coordinates.{coordinate}
use Rattle.engine.specs.Refusals.{Told, alone, not_coordinate, out_of_limits}
use Rattle.engine.specs.declared.band.Band.{Band}

-- why a and b make no band: one of them is no coordinate; then, they are reversed
abbrev pub band_refusal : ℤ → ℤ → Option Told
band_refusal a b =
    if not (coordinate a && coordinate b) then Some (alone not_coordinate)
    else if int_lt b a then Some (alone out_of_limits)
    else None

-- the band from a to b
abbrev pub IsBand : ℤ → ℤ → Band → Type 0
IsBand a b r = (r.lo ≡ a) × (r.hi ≡ b)

-- x is a reading of the band a..b
abbrev pub in_band : ℤ → ℤ → ℤ → Bool
in_band a b x = int_le a x && int_le x b
