use Rattle.std.proofs.Common.{◌∙◌, sym}
use Rattle.std.proofs.lemmas.Int.{to_z-of_z}
use Rattle.engine.specs.Edits.{knots_of}
use Rattle.engine.proofs.KnotEdits.{drop_ok}
use Rattle.engine.proofs.TableEdits.{drop_done}
use Rattle.engine.proofs.table.KnotTable.without_knot.Goals as goal

pub spliced-requires-clause-ok : goal.spliced-requires-clause-ok
spliced-requires-clause-ok c =
    let x_fits = c.ranges.x in
    let was = c.args.self.now in
    let slot = c.in_ok-slot.slot in
    let due = simp to_z-of_z at c.in_ok-slot.ensures in
    drop_ok (knots_of was) c.args.x slot.start slot.end due.1 was.list.ok due.0

pub returns : goal.returns
returns c =
    let x_fits = c.ranges.x in
    let was = c.args.self.now in
    let slot = c.in_ok-slot.slot in
    let due = simp to_z-of_z at c.in_ok-slot.ensures in (
      due.0,
      drop_done was c.args.x slot.start slot.end due.1 due.0 c.of.result
          (c.of.ensures.knots_are ∙ c.spliced.ensures ∙ sym due.1.without_is) c.of.ensures.kind_is,
    )
