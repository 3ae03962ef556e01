-- Straight pieces: they meet at the knots, do not fall, and rise by at most S for each unit where S × h is at least D.
use Rattle.std.specs.Prelude.{◌≡◌, ℕ, suc, ◌+◌, ◌*◌, ◌<◌, ◌≤◌, true, false, pos, ◌+ℤ◌, nat_eq}
use Rattle.std.proofs.Math.Path.{refl, subst}
use Rattle.std.proofs.Common.{ap, sym, subst₂, ◌∙◌, mul-le-mul_right, mul-le-mul, add-mul, arith}
use Rattle.std.proofs.Math.Nat.{le_dest}
use Rattle.std.proofs.Math.IntN.{+ℤ_idr}
use borrow.Author.Differences.{ints, up, down}
use borrow.Author.Tests.{eq-eqb, ne_eqb}
use Rattle.engine.specs.Fraction.{Fraction, den, whole, ◌-ᶠ◌, ◌*ᶠ◌, ◌/ᶠ◌, ◌≤ᶠ◌, ◌≈ᶠ◌, leᶠ}
use Rattle.engine.specs.declared.knot.Knot.{Knot}
use Rattle.engine.specs.Pieces.{width, height, piecewise, line_exact, line_from, line_through}
use Rattle.engine.specs.Orders.{≤ᶠ_refl, ≤ᶠ_trans, whole-≤}
use Rattle.engine.specs.Terms.{Is, Is-whole, Is-*, Is-/, Is-≤, val, Val-≤_out}
use Rattle.engine.specs.Sums.{+ᶠ_mono, shift_whole}
use Rattle.engine.specs.Lags.{lag}
use Rattle.engine.specs.Places.{Lawful, Place, lag_piece, x_is, y_is, x_order, x_strict, wide, inside, start_place, end_place}
use Rattle.engine.specs.Joins.{Joined, joined_on}

-- ---- the arithmetic, with each product by itself

-- the climb D × U / d does not fall as U / d grows
grow_go : (D h U d U' d' : ℕ) → U * d' ≤ U' * d → D * U * (1 * d' * h) ≤ D * U' * (1 * d * h)
grow_go D h U d U' d' l = omega (arith, mul-le-mul_right (D * h) l)

-- D × (Y - X) is at most S × h × (Y - X)
tilt : (S D h X Y : ℕ) → D ≤ S * h → X ≤ Y → S * h * X + D * Y ≤ S * h * Y + D * X
tilt S D h X Y k l = at (le_dest l)
  where
    at : (e : ℕ) × (X + e ≡ Y) → S * h * X + D * Y ≤ S * h * Y + D * X
    at g = rw (← g.1) (omega (arith, mul-le-mul_right g.0 k))

-- the terms of the lag, with the product that all four share split off
way_is : (S h U d d' : ℕ) → S * U * (1 * d * h) * (d' * (1 * d' * h)) ≡ S * h * (U * d') * (h * d * d')
way_is S h U d d' = omega arith

way_is' : (S h U d d' : ℕ) → S * U * (1 * d' * h) * (d * (1 * d * h)) ≡ S * h * (U * d) * (h * d * d')
way_is' S h U d d' = omega arith

rise_is : (D h U d d' : ℕ) → D * U * d' * (d * (1 * d * h)) ≡ D * (U * d) * (h * d * d')
rise_is D h U d d' = omega arith

rise_is' : (D h U d d' : ℕ) → D * U * d * (d' * (1 * d' * h)) ≡ D * (U * d') * (h * d * d')
rise_is' D h U d d' = omega arith

-- the lag S × U / d - D × U / (d × h) does not fall as U / d grows
slow_go : (S D h U d U' d' : ℕ) → D ≤ S * h → U * d' ≤ U' * d
    → S * U * (1 * d * h) * (d' * (1 * d' * h)) + D * U' * d' * (d * (1 * d * h))
    ≤ S * U' * (1 * d' * h) * (d * (1 * d * h)) + D * U * d * (d' * (1 * d' * h))
slow_go S D h U d U' d' k l =
    rw (way_is S h U d d', way_is' S h U' d d', rise_is D h U' d d', rise_is' D h U d d')
    (simp add-mul at (mul-le-mul_right (h * d * d') (tilt S D h (U * d') (U' * d) k l)))

-- ---- one piece

module _ (s : Knot) (h D : ℕ) (h_pos : 0 < h) where
  -- what the piece adds to y at q, with U / d the way from its start
  abbrev pub climb : Fraction → Fraction
  climb q = (whole (pos D) *ᶠ (q -ᶠ whole s.x)) /ᶠ h

  pub climb_is : (q : Fraction) (t : Place s.x h q) → Is (climb q) (D * t.from_start) (1 * den q * h)
  climb_is q t = Is-/ h h_pos (Is-* (Is-whole D) t.offset)

  W_pos : (d : ℕ) → 0 < d → 0 < 1 * d * h
  W_pos d k = omega (arith, mul-le-mul k h_pos)

  below : (p q : Fraction) (t : Place s.x h p) (t' : Place s.x h q) → p ≤ᶠ q
      → t.from_start * den q ≤ t'.from_start * den p
  below p q t t' k = omega (arith, Val-≤_out t.terms t'.terms k)

  -- the piece does not fall
  line_grows : (p q : Fraction) → Place s.x h p → Place s.x h q → p ≤ᶠ q
      → line_exact s h D p ≤ᶠ line_exact s h D q
  unfolding line_exact
  line_grows p q t t' k =
      +ᶠ_mono s.y
      (Is-≤ (W_pos (den p) (omega arith)) (W_pos (den q) (omega arith)) (climb_is p t) (climb_is q t')
      (grow_go D h t.from_start (den p) t'.from_start (den q) (below p q t t' k)))

  -- and rises by at most S for each unit
  line_slow : (S : ℕ) → D ≤ S * h → (p q : Fraction) → Place s.x h p → Place s.x h q → p ≤ᶠ q
      → lag S p (line_exact s h D p) ≤ᶠ lag S q (line_exact s h D q)
  unfolding line_exact
  line_slow S k p q t t' l =
      lag_piece S s.x s.y p q (climb p) (climb q) t.from_start t'.from_start (D * t.from_start)
      (D * t'.from_start) (1 * den p * h) (1 * den q * h) (W_pos (den p) (omega arith)) (W_pos (den q) (omega arith))
      t.terms t'.terms (climb_is p t) (climb_is q t')
      (slow_go S D h t.from_start (den p) t'.from_start (den q) k (below p q t t' l))

  -- at its two ends it has the knots' values
  pub line_start : Place s.x h (whole s.x)
      → line_exact s h D (whole s.x) ≈ᶠ whole s.y
  unfolding line_exact
  line_start t =
      shift_whole s.y s.y 0 (sym (+ℤ_idr s.y)) (climb_is (whole s.x) t) (W_pos 1 (omega arith))
      (ap (λ u. D * u) zero_U ∙ omega arith)
    where
      zero_U : t.from_start ≡ 0
      zero_U = omega (arith, Val-≤_out t.terms (val (whole s.x)) (≤ᶠ_refl (whole s.x)))

  line_end : (s' : Knot) → s'.x ≡ s.x +ℤ pos h → s'.y ≡ s.y +ℤ pos D → Place s.x h (whole s'.x)
      → line_exact s h D (whole s'.x) ≈ᶠ whole s'.y
  unfolding line_exact
  line_end s' e e' t =
      shift_whole s.y s'.y D e' (climb_is (whole s'.x) t) (W_pos 1 (omega arith))
      (ap (λ u. D * u) full_U ∙ omega arith)
    where
      moved : up s'.x + down s.x ≡ down s'.x + up s.x + h
      moved = omega (arith, ints, e)

      full_U : t.from_start ≡ h
      full_U = omega (arith, moved, t.split, Val-≤_out (val (whole s'.x)) t.terms (≤ᶠ_refl (whole s'.x)))

-- ---- the whole curve

module _ (k : ℕ → Knot) (top : ℕ) (law : Lawful k top) where
  -- from knot i on stands its piece, from the last on its y
  pub line_piece : (i : ℕ) (q : Fraction) → i < top
      → line_from k top i q ≡ line_exact (k i) (width k i) (height k i) q
  unfolding line_from
  line_piece i q l = let e : nat_eq i top ≡ false = ne_eqb i top (λ n. omega arith) in rw e refl

  pub line_top : (q : Fraction) → line_from k top top q ≡ whole (k top).y
  unfolding line_from
  line_top q = let e : nat_eq top top ≡ true = eq-eqb top top refl in rw e refl

  -- a rise S that no piece passes
  module _ (S : ℕ) (gentle : (i : ℕ) → i < top → height k i ≤ S * width k i) where
    pub line_joined : Joined k top S (line_from k top)
    line_joined = record {
      x_rises = x_order k top law;
      y_rises = λ i l. whole-≤ (k i).y (k (suc i)).y (law.y_rises i l);
      at_top = line_top;
      start =
          λ i l. subst (λ v. v ≈ᶠ whole (k i).y) (sym (line_piece i (whole (k i).x) l))
          (line_start (k i) (width k i) (height k i) (wide k top law i l) (start_place k top law i l));
      end =
          λ i l. subst (λ v. v ≈ᶠ whole (k (suc i)).y) (sym (line_piece i (whole (k (suc i)).x) l))
          (line_end (k i) (width k i) (height k i) (wide k top law i l) (k (suc i)) (x_is k top law i l)
          (y_is k top law i l) (end_place k top law i l));
      grows =
          λ i p q l a h b. subst₂ ◌≤ᶠ◌ (sym (line_piece i p l)) (sym (line_piece i q l))
          (line_grows (k i) (width k i) (height k i) (wide k top law i l) p q
          (inside k top law i p l a (≤ᶠ_trans h b)) (inside k top law i q l (≤ᶠ_trans a h) b) h);
      slow =
          λ i p q l a h b. subst₂ (λ v w. lag S p v ≤ᶠ lag S q w) (sym (line_piece i p l)) (sym (line_piece i q l))
          (line_slow (k i) (width k i) (height k i) (wide k top law i l) S (gentle i l) p q
          (inside k top law i p l a (≤ᶠ_trans h b)) (inside k top law i q l (≤ᶠ_trans a h) b) h);
    }

    -- between two knots the curve is the straight piece
    pub line_on : (i : ℕ) (q : Fraction) → i < top → whole (k i).x ≤ᶠ q → q ≤ᶠ whole (k (suc i)).x
        → line_through k top q ≈ᶠ line_exact (k i) (width k i) (height k i) q
    unfolding line_through
    line_on i q l h r =
        subst (λ v. piecewise (λ i q. leᶠ (whole (k i).x) q) (λ q. whole (k 0).y) (line_from k top) top q ≈ᶠ v)
        (line_piece i q l) (joined_on k top S (line_from k top) line_joined (x_strict k top law) i q l h r)
