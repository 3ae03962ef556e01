use Rattle.std.proofs.Common.{sym, w32, SFits, rules, arith}
use Rattle.std.proofs.lemmas.Int.{to_z-of_z}
use Rattle.engine.specs.Lists.{listed}
use Rattle.engine.specs.Knots.{near, upward}
use Rattle.engine.proofs.KnotEdits.{put_count, put_apart, put_order, put_honoured}
use Rattle.engine.proofs.table.list.KnotList.slot_to_put.Goals as goal

pub returns-then-len_without-gt-MOST : goal.returns-then-len_without-gt-MOST
returns-then-len_without-gt-MOST c =
    let x_fits : SFits w32 c.args.k.x = search rules in
    let l = c.args.self.now in
    let slot = c.slot_of-slot.result in
    put_count (listed l) c.args.k.x slot.start slot.end (simp to_z-of_z at c.slot_of-slot.ensures) l.ok c.args.k.y
    (sym c.if-not-is_fit.ensures) (omega (arith, c.if-len_without-gt-MOST.true, c.len_without.ensures))

pub returns-then-not-fits_between : goal.returns-then-not-fits_between
returns-then-not-fits_between c =
    let x_fits : SFits w32 c.args.k.x = search rules in
    let l = c.args.self.now in
    let slot = c.slot_of-slot.result in
    put_apart (listed l) c.args.k.x slot.start slot.end (simp to_z-of_z at c.slot_of-slot.ensures) l.ok c.args.k.y _ _
    c.before-before.ensures c.get-after.ensures (sym c.if-not-is_fit.ensures)
    (omega (arith, c.if-len_without-gt-MOST.false, c.len_without.ensures))
    (sym (c.if-not-fits_between.ensures near (λ a b r h. search rules)))

pub returns-then-not-fits_between-2 : goal.returns-then-not-fits_between-2
returns-then-not-fits_between-2 c =
    let x_fits : SFits w32 c.args.k.x = search rules in
    let l = c.args.self.now in
    let slot = c.slot_of-slot.result in
    put_order (listed l) c.args.k.x slot.start slot.end (simp to_z-of_z at c.slot_of-slot.ensures) l.ok c.args.k.y _ _
    c.before-before.ensures c.get-after.ensures (sym c.if-not-is_fit.ensures)
    (omega (arith, c.if-len_without-gt-MOST.false, c.len_without.ensures))
    (sym (c.if-not-fits_between.ensures near (λ a b r h. search rules)))
    (sym (c.if-not-fits_between-2.ensures upward (λ a b r h. search rules)))

pub returns : goal.returns
returns c =
    let x_fits : SFits w32 c.args.k.x = search rules in
    let l = c.args.self.now in
    let slot = c.slot_of-slot.result in
    let placed = simp to_z-of_z at c.slot_of-slot.ensures in (
      put_honoured (listed l) c.args.k.x slot.start slot.end placed l.ok c.args.k.y _ _ c.before-before.ensures
          c.get-after.ensures (sym c.if-not-is_fit.ensures)
          (omega (arith, c.if-len_without-gt-MOST.false, c.len_without.ensures))
          (sym (c.if-not-fits_between.ensures near (λ a b r h. search rules)))
          (sym (c.if-not-fits_between-2.ensures upward (λ a b r h. search rules))),
      placed,
    )
