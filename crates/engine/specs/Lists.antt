-- The list of knots of a table in the code.
use Rattle.std.specs.Prelude.{List, take}
use Rattle.engine.specs.declared.knot.Knot.{Knot}
use Rattle.engine.specs.declared.table.list.KnotList.{KnotList}

-- its knots
abbrev pub listed : KnotList → List Knot
listed l = take l.count l.knots
