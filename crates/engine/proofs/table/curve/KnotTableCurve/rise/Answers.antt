use Rattle.std.proofs.Common.{◌∷◌, [], drop, min, sym, ap, ap₂, ◌∙◌, subst, inl, inr, rules, arith}
use Rattle.std.proofs.lemmas.List.{length-append, length-drop, take_all}
use Rattle.std.specs.Slice.Iter.{iter_rest}
use Rattle.engine.specs.Coordinates.{furthest}
use Rattle.engine.specs.Knots.{knot_at}
use Rattle.engine.specs.Lists.{listed}
use Rattle.engine.specs.Neighbours.{piece_rise}
use Rattle.engine.proofs.Lists.{enough}
use Rattle.engine.proofs.TableValues.{Walked, steepest, steepest_none, steepest_held, walked_piece, walked_on, walked_all}
use Rattle.engine.proofs.table.curve.KnotTableCurve.rise.Goals as goal

pub new-requires : goal.new-requires
new-requires c =
    let t = c.args.self.now in
    let s = c.in-Some.ensures.steps in
    walked_piece t.kind (listed t.list) _ _ _ _ c.loop-from.invariant _ _ _ _ s.0 s.1 t.list.ok

pub loop-from-init : goal.loop-from-init
loop-from-init c =
    let t = c.args.self.now in
    record {
      behind_is = search rules;
      ahead_is = ap (λ z. iter_rest z.b) c.into_iter-from-iterator.ensures.into_iter_gives
          ∙ c.zip-from-items.ensures.second.0
          ∙ take_all _ _ (omega (arith, length-drop 1 c.as_slice-ks.result.now))
          ∙ ap (drop 1) c.as_slice-ks.ensures;
      room = omega (arith, enough t.list);
      greatest_is = steepest_none t.kind (knot_at (listed t.list));
    }

pub loop-from-preserved : goal.loop-from-preserved
loop-from-preserved c =
    let t = c.args.self.now in
    let s = c.in-Some.ensures.steps in
    let counted = length-append c.loop-from.yielded ((c.in-Some.from, c.in-Some.to) ∷ []) in
    subst (λ n. Walked t.kind (listed t.list) n c.max-greatest.result (iter_rest c.next.new.self.a) (iter_rest c.next.new.self.b))
    (sym counted)
    (walked_on t.kind (listed t.list) _ _ _ _ c.loop-from.invariant _ _ _ _ s.0 s.1 c.rise.result c.max-greatest.result
    (c.rise.ensures ∙ ap₂ (piece_rise t.kind) c.new.ensures.from c.new.ensures.to) c.max-greatest.ensures)

pub returns : goal.returns
returns c =
    let t = c.args.self.now in
    let all =
    walked_all t.kind (listed t.list) _ _ _ _ c.loop-from.invariant (enough t.list)
    (elim c.in-None.ensures.steps [ inl e ↦ inl e.1.0 | inr e ↦ inr e.1.0 ]) in
    c.min.ensures
    ∙ ap (λ n. min n furthest)
    (c.loop-from.invariant.greatest_is ∙ ap (steepest t.kind (knot_at (listed t.list))) all)
    ∙ steepest_held t.kind (listed t.list) (enough t.list) t.list.ok
