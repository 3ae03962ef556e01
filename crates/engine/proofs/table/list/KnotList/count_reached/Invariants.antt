use Rattle.std.proofs.Common.{◌≡◌, ◌-◌, ◌<◌, ◌≤◌, true, false, length}
use lib.Signed.{le_z}
use Rattle.engine.specs.Knots.{knot_at}
use Rattle.engine.specs.Lists.{listed}
use Rattle.engine.proofs.table.list.KnotList.count_reached.Given as goal

-- what is before `low` is reached, and what is from `high` on is not
abbrev pub invariant-loop-low : goal.invariant-loop-low
invariant-loop-low l =
    (l.low ≤ l.high)
    × (l.high ≤ length (listed l.self))
    × (0 < l.low → le_z (knot_at (listed l.self) (l.low - 1)).x l.x ≡ true)
    × (l.high < length (listed l.self) → le_z (knot_at (listed l.self) l.high).x l.x ≡ false)

abbrev pub decreases-loop-low : goal.decreases-loop-low
decreases-loop-low l = l.high - l.low
