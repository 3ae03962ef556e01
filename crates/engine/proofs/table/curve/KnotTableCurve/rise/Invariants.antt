use Rattle.std.proofs.Common.{length}
use Rattle.std.specs.Slice.Iter.{iter_rest}
use Rattle.engine.specs.Lists.{listed}
use Rattle.engine.proofs.TableValues.{Walked}
use Rattle.engine.proofs.table.curve.KnotTableCurve.rise.Given as goal

-- one walk is at the pieces' starts, the other at their ends
abbrev pub invariant-loop-from : goal.invariant-loop-from
invariant-loop-from l =
    Walked l.self.kind (listed l.self.list) (length l.yielded) l.greatest (iter_rest l.from-iterator.a)
    (iter_rest l.from-iterator.b)
