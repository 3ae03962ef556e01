use Rattle.std.proofs.Common.{◌-ℤ◌}
use Rattle.std.specs.Int.RustNames.{unsigned_abs}
use Rattle.table_cases.proofs.Values.{Begun}
use Rattle.table_cases.proofs.answers.values_at.Given as goal

abbrev pub invariant-loop-reading : goal.invariant-loop-reading
invariant-loop-reading l = Begun l.table l.fn.readings l.values.items l.reading

abbrev pub decreases-loop-reading : goal.decreases-loop-reading
decreases-loop-reading l = unsigned_abs (l.last -ℤ l.reading)
