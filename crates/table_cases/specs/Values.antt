-- The values of a table at the readings of a line: first, first + step, first + 2 step .. that are not above last.
use Rattle.std.specs.Prelude.{◌≡◌, ℕ, ◌*◌, ◌<◌, List, length, ℤ, pos, ◌+ℤ◌, ◌≤ℤ◌, Some}
use Rattle.std.specs.List.{slice_get}
use Rattle.std.specs.NonZero.{non_zero_u32_get}
use Rattle.engine.specs.Coordinates.{hold, lowest, highest}
use Rattle.engine.specs.Edits.{curve_of}
use Rattle.engine.specs.declared.table.KnotTable.{KnotTable}
use Rattle.table_cases.specs.declared.script.Readings.{Readings}

-- reading i, counted from 0, which may be above last
abbrev pub reading_at : Readings → ℕ → ℤ
reading_at r i = r.first +ℤ pos (i * non_zero_u32_get r.step)

-- the table's value at x, which is first held to the coordinates
abbrev pub value_at : KnotTable → ℤ → ℤ
value_at t x = (curve_of t).V (hold lowest highest x)

-- Each reading that is not above last has its value, in the order of the readings, and there is no other value.
pub record ValuesAt (t : KnotTable) (r : Readings) (values : List ℤ) : Type 0 where
  pub each : (i : ℕ) → reading_at r i ≤ℤ r.last → slice_get values i ≡ Some (value_at t (reading_at r i))
  pub none_more : (i : ℕ) → i < length values → reading_at r i ≤ℤ r.last
