-- The readings of a span: first, first + step, first + 2 step .. that are not above last.
use Rattle.std.specs.Prelude.{ℕ, suc, ◌*◌, ◌/◌, ◌||◌, if◌then◌else◌, ℤ, pos, ◌+ℤ◌, ◌-ℤ◌, Some, None, Option, int_lt, nat_lt, unsigned_abs}
use Rattle.std.specs.Option.{option_or}
use Rattle.engine.specs.Bands.{band_refusal}
use Rattle.engine.specs.Coordinates.{furthest}
use Rattle.engine.specs.Refusals.{Told, alone, out_of_limits}
use Rattle.tabulate.specs.declared.readings.Readings.{Readings}
use Rattle.tabulate.specs.declared.span.Span.{Span}

-- ---- a span

-- its reading i
abbrev pub reading_at : Span → ℕ → ℤ
reading_at s i = s.first +ℤ pos (i * unsigned_abs s.step)

-- how many readings it has, for last not below first and step at least 1
abbrev pub reading_count : Span → ℕ
reading_count s = suc (unsigned_abs (s.last -ℤ s.first) / unsigned_abs s.step)

-- its reading i, where it has one
abbrev pub reading_of : Span → ℕ → Option ℤ
reading_of s i = if nat_lt i (reading_count s) then Some (reading_at s i) else None

-- a step is a whole number from 1 to 16383
abbrev pub step_refusal : ℤ → Option Told
step_refusal step = if int_lt step (pos 1) || int_lt (pos furthest) step then Some (alone out_of_limits) else None

-- first and last make a band, then the step is lawful
abbrev pub span_refusal : Span → Option Told
span_refusal s = option_or (band_refusal s.first s.last) (step_refusal s.step)

-- ---- readings in the code

-- the span whose readings they are
abbrev pub span_of : Readings → Span
span_of r = record { first = r.band.lo; last = r.band.hi; step = pos r.step }
