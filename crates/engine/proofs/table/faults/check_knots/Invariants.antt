use Rattle.std.proofs.Common.{◌≡◌, drop, None}
use Rattle.engine.specs.Edits.{first_fault}
use Rattle.engine.proofs.table.faults.check_knots.Given as goal

-- the knots that are left give the same fault as all of them
abbrev pub invariant-loop-index : goal.invariant-loop-index
invariant-loop-index l = first_fault 0 None l.ks ≡ first_fault l.index-counter l.before (drop l.index-counter l.ks)
