-- The readings that a table has.
use Rattle.std.proofs.Common.{ℕ, ℤ, ◌*◌, ◌/◌, ◌<◌, ◌≤◌, ◌-ℤ◌, ◌≤ℤ◌, unsigned_abs, arith}
use Rattle.std.proofs.Math.Nat.{le-div_iff_mul-le}
use Rattle.std.proofs.lemmas.Int.{ints}
use Rattle.engine.specs.Coordinates.{Coordinate}
use Rattle.engine.specs.Holds.{band_ends}
use Rattle.tabulate.specs.Readings.{reading_at, reading_count, span_of}
use Rattle.tabulate.specs.declared.readings.Readings.{Readings}

-- reading i, and how many there are
abbrev pub at : Readings → ℕ → ℤ
at r i = reading_at (span_of r) i

abbrev pub count : Readings → ℕ
count r = reading_count (span_of r)

module _ (r : Readings) where
  -- there is a reading i exactly where i steps do not pass the last
  pub reading_inside : (i : ℕ) → i < count r → at r i ≤ℤ r.band.hi
  reading_inside i h =
      let k : i ≤ unsigned_abs (r.band.hi -ℤ r.band.lo) / r.step = omega arith in
      omega (arith, ints, r.band.order, (le-div_iff_mul-le r.some).0 k)

  pub reading_there : (i : ℕ) → at r i ≤ℤ r.band.hi → i < count r
  reading_there i h =
      let k : i * r.step ≤ unsigned_abs (r.band.hi -ℤ r.band.lo) = omega (arith, ints, r.band.order) in
      omega (arith, (le-div_iff_mul-le r.some).1 k)

  pub reading_fits : (i : ℕ) → i < count r → Coordinate (at r i)
  reading_fits i h =
      let ends = band_ends r.band in
      let last = reading_inside i h in
      record { low = omega (arith, ints); high = omega (arith, ints) }
