use Rattle.std.proofs.Common.{◌∙◌, sym}
use Rattle.engine.specs.Edits.{knots_of}
use Rattle.engine.proofs.KnotEdits.{put_ok}
use Rattle.engine.proofs.TableEdits.{put_done}
use Rattle.engine.proofs.table.KnotTable.with_knot.Goals as goal

pub spliced-requires-clause-ok : goal.spliced-requires-clause-ok
spliced-requires-clause-ok c =
    let was = c.args.self.now in
    let slot = c.in_ok-slot.slot in
    let placed = c.in_ok-slot.ensures.1 in
    put_ok (knots_of was) c.args.k.x slot.start slot.end placed was.list.ok c.args.k.y c.in_ok-slot.ensures.0

pub returns : goal.returns
returns c =
    let was = c.args.self.now in
    let slot = c.in_ok-slot.slot in
    let none = c.in_ok-slot.ensures.0 in
    let placed = c.in_ok-slot.ensures.1 in (
      none,
      put_done was c.args.k.x slot.start slot.end placed c.args.k.y none c.of.result
          (c.of.ensures.knots_are ∙ c.spliced.ensures ∙ sym (placed.with_is c.args.k.y)) c.of.ensures.kind_is,
    )
