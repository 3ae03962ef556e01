use Rattle.std.proofs.Common.{sym, ap, ◌∙◌, arith, w32, of_z}
use Rattle.std.proofs.lemmas.Int.{to_z-of_z}
use Rattle.engine.specs.Lists.{listed}
use Rattle.engine.specs.Lawfuls.{parts}
use Rattle.engine.proofs.Slots.{same_x, slot_apart, slot_at}
use Rattle.engine.proofs.table.list.KnotList.slot_of.Goals as goal

pub returns-in-Some : goal.returns-in-Some
returns-in-Some c =
    let x_fits = c.ranges.x in
    let l = c.args.self.now in
    slot_at c.args.x (listed l) (parts (listed l) l.ok).1 c.count_reached-end.result c.in-Some.k
    (simp to_z-of_z at c.count_reached-end.ensures) (sym c.before-2.ensures ∙ c.in-Some.is) (grind (arith, to_z-of_z))

pub returns-in_default : goal.returns-in_default
returns-in_default c =
    let x_fits = c.ranges.x in
    let l = c.args.self.now in
    slot_apart c.args.x (listed l) (parts (listed l) l.ok).1 c.count_reached-end.result
    (simp to_z-of_z at c.count_reached-end.ensures) (λ k e p.
    let same = same_x k c.in-Some.k (sym e ∙ sym c.before-2.ensures ∙ c.in-Some.is) in
    c.if-k-x.false (ap (of_z w32) (sym same ∙ p)))
