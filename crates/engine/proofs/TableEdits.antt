-- What an honoured edit leaves in a table.
use Rattle.std.proofs.Common.{◌≡◌, ℕ, ◌-◌, ◌<◌, List, ◌∷◌, length, take, drop, ℤ, None, sym, ap, ◌∙◌, subst, arith}
use Rattle.std.proofs.lemmas.List.{length-take-le, get_or-append_right}
use Rattle.engine.specs.Fraction.{whole, ◌≈ᶠ◌}
use Rattle.engine.specs.declared.knot.Knot.{Knot}
use Rattle.engine.specs.Slots.{Slotted}
use Rattle.engine.specs.Edits.{knots_of, curve_of, Has, put_refusal, drop_refusal, Put, Dropped}
use Rattle.engine.specs.Knots.{empty, knot, knot_at, with_knot, without_knot}
use Rattle.engine.specs.Theorems.{TableLaw}
use Rattle.engine.specs.declared.table.KnotTable.{KnotTable}
use Rattle.engine.proofs.KnotEdits.{with_length, put_stay, put_none, drop_stay, drop_none, drop_gone}
use Rattle.engine.proofs.Lists.{enough}
use Rattle.engine.specs.Lawfuls.{parts}
use Rattle.engine.proofs.TableLaws.{table_laws_lem}

-- a table passes through its knots
through : (t : KnotTable) → TableLaw t.kind (knots_of t)
through t = table_laws_lem.through t.kind (knots_of t) (enough t.list) t.list.ok

module _ (was : KnotTable) (x : ℤ) (start end : ℕ) (s : Slotted (knots_of was) x start end) where
  abbrev ks : List Knot
  ks = knots_of was

  module _ (y : ℤ) (none : put_refusal x y ks ≡ None) where
    pub put_done : (t : KnotTable) → knots_of t ≡ with_knot x y ks → t.kind ≡ was.kind → Put x y was t
    put_done t e k = record {
      knots_are = e;
      kind_kept = k;
      value_at = subst (λ j. (curve_of t).V j.x ≡ j.y) here ((through t).value_at start in_new);
      exact_at = subst (λ j. (curve_of t).E (whole j.x) ≈ᶠ whole j.y) here ((through t).exact_at start in_new);
      others_stay = λ j o h. subst (Has j) (sym e) (put_stay x y j o ks h);
      none_comes = λ j o h. put_none x y j o ks (subst (Has j) e h);
    }
      where
        in_new : start < length (knots_of t)
        in_new = omega (arith, ap length e, with_length ks x start end s was.list.ok y)

        here : knot_at (knots_of t) start ≡ knot x y
        here =
            let none_before : start - start ≡ 0 = omega arith in
            ap (λ l. knot_at l start) (e ∙ s.with_is y)
            ∙ get_or-append_right (take start ks) (knot x y ∷ drop end ks) start start empty
            (length-take-le start ks (omega (arith, s.order, s.inside))) (omega arith)
            ∙ ap (knot_at (knot x y ∷ drop end ks)) none_before

  module _ (none : drop_refusal x ks ≡ None) where
    pub drop_done : (t : KnotTable) → knots_of t ≡ without_knot x ks → t.kind ≡ was.kind → Dropped x was t
    drop_done t e k = record {
      knots_are = e;
      kind_kept = k;
      gone = λ j h. drop_gone x j ks (parts ks was.list.ok).1 (subst (Has j) e h);
      others_stay = λ j o h. subst (Has j) (sym e) (drop_stay x j o ks h);
      none_comes = λ j h. drop_none x j ks (subst (Has j) e h);
    }
