-- A table of a curve: a row for each reading of a span.
use Rattle.std.specs.Prelude.{◌≡◌, ℕ, suc, ◌+◌, ◌*◌, ◌<◌, ℤ, pos, ◌+ℤ◌, ◌≤ℤ◌, Some, Option, option_map, unsigned_abs}
use Rattle.engine.specs.Fraction.{Fraction, whole, ◌+ᶠ◌, ◌≤ᶠ◌}
use Rattle.engine.specs.Curves.{Meaning}
use Rattle.tabulate.specs.Readings.{reading_at, reading_count, reading_of, span_of}
use Rattle.tabulate.specs.declared.span.Span.{Span}
use Rattle.tabulate.specs.declared.table.Row.{Row}
use Rattle.tabulate.specs.declared.table.Table.{Table}

-- ---- a table in the code

-- how many rows it has
abbrev pub count_of : {C : Type 0} → Table C → ℕ
count_of t = reading_count (span_of t.readings)

-- the row at a reading, of whole values V
abbrev pub row_at : (ℤ → ℤ) → ℤ → Row
row_at V x = record { reading = x; value = V x }

-- its row i, where its curve means m
abbrev pub row_of : {C : Type 0} → Meaning → Table C → ℕ → Option Row
row_of m t i = option_map (row_at m.V) (reading_of (span_of t.readings) i)

-- ---- what a table is good for

-- The rows, `count` in number, speak for an exact curve E over a span, with a told rise and a told radius.
pub record Faithful (E : Fraction → Fraction) (rise radius : ℕ) (s : Span) (count : ℕ) (row : ℕ → Option Row) : Type 0 where
  -- there is a row i exactly where i is below the count
  pub counted : (i : ℕ) → i < count → (r : Row) × (row i ≡ Some r)
  pub below_count : (i : ℕ) (r : Row) → row i ≡ Some r → i < count
  -- and exactly where i steps from the first reading do not pass the last, and it has that reading
  pub there : (i : ℕ) → reading_at s i ≤ℤ s.last → (r : Row) × (row i ≡ Some r)
  pub inside : (i : ℕ) (r : Row) → row i ≡ Some r → r.reading ≤ℤ s.last
  pub reads : (i : ℕ) (r : Row) → row i ≡ Some r → r.reading ≡ reading_at s i
  -- each value lies within the radius of the exact curve at its reading
  pub near_low : (i : ℕ) (r : Row) → row i ≡ Some r → E (whole r.reading) ≤ᶠ whole r.value +ᶠ whole (pos radius)
  pub near_high : (i : ℕ) (r : Row) → row i ≡ Some r → whole r.value ≤ᶠ E (whole r.reading) +ᶠ whole (pos radius)
  -- no value is below the one before it, nor above it by more than the rise over a step and the radius on both sides
  pub steady : (i : ℕ) (r r' : Row) → row i ≡ Some r → row (suc i) ≡ Some r' → r.value ≤ℤ r'.value
  pub gentle : (i : ℕ) (r r' : Row) → row i ≡ Some r → row (suc i) ≡ Some r'
      → r'.value ≤ℤ (r.value +ℤ pos (rise * unsigned_abs s.step + 2 * radius))

-- a table of a curve that means m speaks for it
abbrev pub TableLaw : {C : Type 0} → Meaning → Table C → Type 0
TableLaw m t = Faithful m.E m.S m.R (span_of t.readings) (count_of t) (row_of m t)
