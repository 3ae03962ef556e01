use Rattle.std.proofs.Common.{◌+◌, ◌-◌, ◌<◌, ◌≤ℤ◌, length, sym, ap, ap₂, ◌∙◌, subst, arith, w32, SFits, rules, pos}
use Rattle.std.proofs.lemmas.Int.{to_z-of_z}
use Rattle.engine.specs.declared.knot.Knot.{Knot}
use Rattle.engine.specs.Knots.{knot_at}
use Rattle.engine.specs.Lists.{listed}
use Rattle.engine.specs.Neighbours.{piece_value}
use Rattle.engine.proofs.Lists.{enough}
use Rattle.engine.proofs.TableValues.{none_reached, all_reached, reached_short, reached_value}
use Rattle.engine.proofs.table.KnotTable.value_at.Goals as goal

pub returns-then-n-eq0 : goal.returns-then-n-eq0
returns-then-n-eq0 c =
    let x_fits = c.ranges.x in
    let t = c.args.self.now in
    let ks = listed t.list in
    let y_fits : SFits w32 (knot_at ks 0).y = search rules in
    let reached = simp to_z-of_z at c.count_reached-n.ensures in
    rw c.as_slice-ks.ensures
    (simp to_z-of_z (none_reached ks (enough t.list) t.list.ok c.args.x c.count_reached-n.result reached t.kind c.if-n-eq0.true))

pub returns-then-n-ks : goal.returns-then-n-ks
returns-then-n-ks c =
    let x_fits = c.ranges.x in
    let t = c.args.self.now in
    let ks = listed t.list in
    let y_fits : SFits w32 (knot_at ks (c.count_reached-n.result - 1)).y = search rules in
    let reached = simp to_z-of_z at c.count_reached-n.ensures in
    rw c.as_slice-ks.ensures
    (simp to_z-of_z
    (all_reached ks (enough t.list) t.list.ok c.args.x c.count_reached-n.result reached t.kind
    (c.if-n-ks.true ∙ ap length c.as_slice-ks.ensures)))

-- x lies in the piece before knot n
pub value-requires-clause-to : goal.value-requires-clause-to
value-requires-clause-to c =
    let x_fits = c.ranges.x in
    let t = c.args.self.now in
    let ks = listed t.list in
    let reached = simp to_z-of_z at c.count_reached-n.ensures in
    let short : c.count_reached-n.result < length ks =
    omega (arith, c.if-n-ks.false, reached.inside, ap length c.as_slice-ks.ensures) in
    simp to_z-of_z
    (subst (λ (q : Knot). c.args.x ≤ℤ q.x) (sym c.piece.ensures.to)
    (reached_short ks (enough t.list) t.list.ok c.args.x c.count_reached-n.result reached (omega (arith, c.if-n-eq0.false))
    short))

pub returns : goal.returns
returns c =
    let x_fits = c.ranges.x in
    let t = c.args.self.now in
    let ks = listed t.list in
    let reached = simp to_z-of_z at c.count_reached-n.ensures in
    let short : c.count_reached-n.result < length ks =
    omega (arith, c.if-n-ks.false, reached.inside, ap length c.as_slice-ks.ensures) in
    let r_fits : SFits w32 c.value.result = search rules in
    let told = simp to_z-of_z at c.value.ensures in
    simp to_z-of_z
    (told
    ∙ ap₂ (λ p q. piece_value t.kind p q (pos c.piece.result.start_slope) (pos c.piece.result.end_slope) c.args.x)
    c.piece.ensures.from c.piece.ensures.to
    ∙ ap₂ (λ M M'. piece_value t.kind (knot_at ks (c.count_reached-n.result - 1)) (knot_at ks (c.count_reached-n.result - 1 + 1)) M M' c.args.x)
    c.piece.ensures.start c.piece.ensures.end
    ∙ reached_value ks (enough t.list) t.list.ok c.args.x c.count_reached-n.result reached (omega (arith, c.if-n-eq0.false)) short
    t.kind)
