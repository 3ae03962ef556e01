use Rattle.std.proofs.Common.{◌≡◌, ◌<◌, sym, rules, arith}
use Rattle.std.proofs.lemmas.Int.{to_z-of_z}
use Rattle.engine.specs.Lists.{listed}
use Rattle.engine.proofs.KnotEdits.{drop_apart, drop_honoured}
use Rattle.engine.proofs.table.list.KnotList.slot_to_drop.Goals as goal

pub returns-then-not-closes : goal.returns-then-not-closes
returns-then-not-closes c =
    let fits = c.ranges.x in
    let l = c.args.self.now in
    let slot = c.slot_of-slot.result in
    let some : slot.start < slot.end = search rules in
    let there : ¬ (slot.start ≡ slot.end) = λ e. omega (arith, some) in
    drop_apart (listed l) c.args.x slot.start slot.end (simp to_z-of_z at c.slot_of-slot.ensures) l.ok there
    (omega (arith, c.if-len_without-lt-FEWEST.false, c.len_without.ensures))
    (sym c.if-not-closes.ensures)

pub returns : goal.returns
returns c =
    let fits = c.ranges.x in
    let l = c.args.self.now in
    let slot = c.slot_of-slot.result in
    let some : slot.start < slot.end = search rules in
    let there : ¬ (slot.start ≡ slot.end) = λ e. omega (arith, some) in
    let placed = simp to_z-of_z at c.slot_of-slot.ensures in (
      drop_honoured (listed l) c.args.x slot.start slot.end placed l.ok there
          (omega (arith, c.if-len_without-lt-FEWEST.false, c.len_without.ensures))
          (sym c.if-not-closes.ensures),
      placed,
    )
