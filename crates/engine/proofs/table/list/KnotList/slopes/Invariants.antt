use Rattle.std.proofs.Common.{◌≡◌, ℕ, ◌<◌, get_or, pos}
use Rattle.engine.specs.Lists.{listed}
use Rattle.engine.specs.Tables.{stored_at}
use Rattle.engine.proofs.table.list.KnotList.slopes.Given as goal

-- the slopes before i are stored
abbrev pub invariant-loop-i : goal.invariant-loop-i
invariant-loop-i l = (j : ℕ) → j < l.i → pos (get_or l.slope-items j 0) ≡ stored_at (listed l.self) j
