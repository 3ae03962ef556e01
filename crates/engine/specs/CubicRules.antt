-- The rules of every lawful table of monotone cubics.
use Rattle.std.specs.Prelude.{◌≡◌, ℕ, suc, ◌*◌, ◌<◌, ◌≤◌, true, false, ℤ, pos, ◌≤ℤ◌, nat_eq}
use Rattle.std.proofs.Math.Path.{refl}
use Rattle.std.proofs.Common.{sym, subst, subst₂, ◌∙◌, arith}
use borrow.Author.Tests.{eq-eqb, ne_eqb}
use Rattle.engine.specs.Coordinates.{Within}
use Rattle.engine.specs.Curves.{Rules, meaning}
use Rattle.engine.specs.Fraction.{Fraction, ◌÷◌, whole, ◌+ᶠ◌, ◌≤ᶠ◌, ◌≈ᶠ◌}
use Rattle.engine.specs.declared.knot.Knot.{Knot}
use Rattle.engine.specs.Pieces.{width, height}
use Rattle.engine.specs.Orders.{≤ᶠ_trans, ≤ℤ_trans, whole-≤}
use Rattle.engine.specs.Terms.{Is-over}
use Rattle.engine.specs.Sums.{whole_within}
use Rattle.engine.specs.Lags.{lag}
use Rattle.engine.specs.Layers.{rise_held}
use Rattle.engine.specs.Places.{LawfulTable, Place, x_is, y_is, x_order, wide, inside, start_place, end_place}
use Rattle.engine.specs.Joins.{Joined, joined_mono, joined_rise, joined_fits}
use Rattle.engine.specs.Tables.{slope, stored, exact_from, value_from, cubic_exact, cubic_value, greatest, round_up}
use Rattle.engine.specs.Tables.{table_value, table_exact, table_rise, table_radius}
use Rattle.engine.specs.declared.kind.Kind.TheVariants.{Cubic}
use Rattle.engine.specs.CubicPieces.{cubic_grows, cubic_slow, cubic_start, cubic_end}
use Rattle.engine.specs.CubicValues.{value_grows, value_low, value_high, value_start, value_end, value_close}
use Rattle.engine.specs.Slopes.{gentle_piece}
use Rattle.engine.specs.Rises.{steep}
use Rattle.engine.specs.Wholes.{Close, Rounded, values_mono, values_fit, values_close}

module _ (k : ℕ → Knot) (top : ℕ) (law : LawfulTable k top) where
  -- piece i, as exact values and as values
  abbrev pub exact_piece : ℕ → Fraction → Fraction
  exact_piece i q = cubic_exact (k i) (width k i) (height k i) (slope k top i) (slope k top (suc i)) q

  abbrev pub value_piece : ℕ → ℤ → ℤ
  value_piece i x =
      cubic_value (k i) (width k i) (height k i) (stored (slope k top i)) (stored (slope k top (suc i))) x

  -- from knot i on stands its piece, from the last on its y
  pub exact_is : (i : ℕ) (q : Fraction) → i < top → exact_from Cubic k top i q ≡ exact_piece i q
  unfolding exact_from
  exact_is i q l = let e : nat_eq i top ≡ false = ne_eqb i top (λ n. omega arith) in rw e refl

  pub exact_top : (q : Fraction) → exact_from Cubic k top top q ≡ whole (k top).y
  unfolding exact_from
  exact_top q = let e : nat_eq top top ≡ true = eq-eqb top top refl in rw e refl

  pub value_is : (i : ℕ) (x : ℤ) → i < top → value_from Cubic k top i x ≡ value_piece i x
  unfolding value_from
  value_is i x l = let e : nat_eq i top ≡ false = ne_eqb i top (λ n. omega arith) in rw e refl

  pub value_top : (x : ℤ) → value_from Cubic k top top x ≡ (k top).y
  unfolding value_from
  value_top x = let e : nat_eq top top ≡ true = eq-eqb top top refl in rw e refl

  -- a whole argument between two neighbours has a place in their piece
  spot : (i : ℕ) (x : ℤ) → i < top → (k i).x ≤ℤ x → x ≤ℤ (k (suc i)).x → Place (k i).x (width k i) (whole x)
  spot i x l a b = inside k top law.knots i (whole x) l (whole-≤ (k i).x x a) (whole-≤ x (k (suc i)).x b)

  -- the rise before it is held
  abbrev pub steepest : ℕ
  steepest = greatest (λ i. round_up (pos (3 * height k i) ÷ width k i)) top

  gentle : (i : ℕ) → i < top → 3 * height k i ≤ steepest * width k i
  gentle i l =
      let w = wide k top law.knots i l in
      steep (λ i. pos (3 * height k i) ÷ width k i) top i (3 * height k i) (width k i) l w
      (Is-over (3 * height k i) (width k i) w)

  -- ---- the exact curve

  pub cubics_joined : Joined k top steepest (exact_from Cubic k top)
  cubics_joined = record {
    x_rises = x_order k top law.knots;
    y_rises = λ i l. whole-≤ (k i).y (k (suc i)).y (law.knots.y_rises i l);
    at_top = exact_top;
    start =
        λ i l. subst (λ v. v ≈ᶠ whole (k i).y) (sym (exact_is i (whole (k i).x) l))
        (cubic_start (gentle_piece k top law i l) (k i) (start_place k top law.knots i l));
    end =
        λ i l. subst (λ v. v ≈ᶠ whole (k (suc i)).y) (sym (exact_is i (whole (k (suc i)).x) l))
        (cubic_end (gentle_piece k top law i l) (k i) (k (suc i)) (x_is k top law.knots i l) (y_is k top law.knots i l)
        (end_place k top law.knots i l));
    grows =
        λ i p q l a h b. subst₂ ◌≤ᶠ◌ (sym (exact_is i p l)) (sym (exact_is i q l))
        (cubic_grows (gentle_piece k top law i l) (k i) p q (inside k top law.knots i p l a (≤ᶠ_trans h b))
        (inside k top law.knots i q l (≤ᶠ_trans a h) b) h);
    slow =
        λ i p q l a h b. subst₂ (λ v w. lag steepest p v ≤ᶠ lag steepest q w) (sym (exact_is i p l))
        (sym (exact_is i q l))
        (cubic_slow (gentle_piece k top law i l) (k i) steepest (gentle i l) p q
        (inside k top law.knots i p l a (≤ᶠ_trans h b)) (inside k top law.knots i q l (≤ᶠ_trans a h) b) h);
  }

  exact_within : (q : Fraction) → Within (table_exact Cubic k top q)
  unfolding table_exact
  exact_within q =
      joined_fits k top steepest (exact_from Cubic k top) cubics_joined
      (λ i l. whole_within (k i).y (law.knots.y_fits i l)) q

  exact_mono : (p q : Fraction) → p ≤ᶠ q → table_exact Cubic k top p ≤ᶠ table_exact Cubic k top q
  unfolding table_exact
  exact_mono p q h = joined_mono k top steepest (exact_from Cubic k top) cubics_joined p q h

  exact_rise : (n : ℕ) (p q : Fraction) → p ≤ᶠ q → q ≤ᶠ p +ᶠ whole (pos n)
      → table_exact Cubic k top q ≤ᶠ table_exact Cubic k top p +ᶠ whole (pos (steepest * n))
  unfolding table_exact
  exact_rise n p q h r = joined_rise k top steepest (exact_from Cubic k top) cubics_joined n p q h r

  -- ---- the value

  rounded : Rounded k top law.knots (value_from Cubic k top) (exact_from Cubic k top)
  rounded = record {
    at_top = value_top;
    exact_top = exact_top;
    low =
        λ i x l a b. subst (λ v. (k i).y ≤ℤ v) (sym (value_is i x l))
        (value_low (gentle_piece k top law i l) (k i) x (spot i x l a b));
    high =
        λ i x l a b. subst₂ ◌≤ℤ◌ (sym (value_is i x l)) (sym (y_is k top law.knots i l))
        (value_high (gentle_piece k top law i l) (k i) x (spot i x l a b));
    grows =
        λ i x x' l a h b. subst₂ ◌≤ℤ◌ (sym (value_is i x l)) (sym (value_is i x' l))
        (value_grows (gentle_piece k top law i l) (k i) x x' (spot i x l a (≤ℤ_trans h b))
        (spot i x' l (≤ℤ_trans a h) b) h);
    close =
        λ i x l a b. subst₂ Close (sym (value_is i x l)) (sym (exact_is i (whole x) l))
        (value_close (gentle_piece k top law i l) (k i) x (spot i x l a b));
  }

  -- at its two ends a piece has the knots' values
  pub piece_start : (i : ℕ) → i < top → value_piece i (k i).x ≡ (k i).y
  piece_start i l = value_start (gentle_piece k top law i l) (k i) (start_place k top law.knots i l)

  pub piece_end : (i : ℕ) → i < top → value_piece i (k (suc i)).x ≡ (k (suc i)).y
  piece_end i l =
      value_end (gentle_piece k top law i l) (k i) (k (suc i)) (x_is k top law.knots i l) (end_place k top law.knots i l)
      ∙ sym (y_is k top law.knots i l)

  -- ---- the rules

  pub cubic_rules : Rules
      (meaning (table_value Cubic k top) (table_exact Cubic k top) (table_rise Cubic k top) (table_radius Cubic))
  unfolding table_rise table_value table_exact
  cubic_rules = record {
    rise_fits = omega arith;
    radius_fits = omega arith;
    value_fits = λ x _. values_fit k top law.knots (value_from Cubic k top) (exact_from Cubic k top) rounded x;
    value_mono = λ x x' _ _ h. values_mono k top law.knots (value_from Cubic k top) (exact_from Cubic k top) rounded x x' h;
    exact_fits = λ q _. exact_within q;
    exact_mono = λ p q _ _ h. exact_mono p q h;
    exact_rise = λ n p q _ _ h r. rise_held _ _ steepest n (exact_within p) (exact_within q) (exact_rise n p q h r);
    value_low = λ x _. (values_close k top law.knots (value_from Cubic k top) (exact_from Cubic k top) rounded x).0;
    value_high = λ x _. (values_close k top law.knots (value_from Cubic k top) (exact_from Cubic k top) rounded x).1;
  }
