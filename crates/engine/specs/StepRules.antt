-- The rules of every lawful table of steps. It is constant between whole numbers, so its rise is shown at the floors:
-- S × floor(q) less the value does not fall.
use Rattle.std.specs.Prelude.{◌≡◌, ℕ, suc, ◌+◌, ◌*◌, ◌<◌, ◌≤◌, Bool, false, ℤ, pos, ◌+ℤ◌, ◌-ℤ◌, ◌*ℤ◌, ◌≤ℤ◌, ◌<ℤ◌, int_le}
use Rattle.std.proofs.Math.Path.{refl, sym, subst, subst₂}
use Rattle.std.proofs.Common.{ap, ◌∙◌, mul-le-mul_left, arith}
use Rattle.std.specs.Int.Signed.{≤ℤ_refl}
use borrow.Author.Differences.{ints, up, down}
use Rattle.engine.specs.Coordinates.{Coordinate, Within, furthest}
use Rattle.engine.specs.Curves.{Rules, meaning}
use Rattle.engine.specs.Fraction.{Fraction, whole, ◌+ᶠ◌, ◌≤ᶠ◌, leᶠ, floorᶠ}
use Rattle.engine.specs.declared.knot.Knot.{Knot}
use Rattle.engine.specs.Pieces.{height, piecewise}
use Rattle.engine.specs.Orders.{≤ᶠ_trans, ≤ℤ_trans, whole-≤, leᶠ_true, leᶠ_false, same_test}
use Rattle.engine.specs.Sums.{+ᶠ_up, whole_sum, whole_within}
use Rattle.engine.specs.Floors.{floor_above, floor_below, floor_mono, floor_near}
use Rattle.engine.specs.Piecewise.{Pieces, piecewise_mono, piecewise_both, piecewise_map}
use Rattle.engine.specs.Joins.{stays}
use Rattle.engine.specs.Places.{Lawful, y_is}
use Rattle.engine.specs.Tables.{exact_from, value_from, greatest, table_value, table_exact, table_rise, table_radius}
use Rattle.engine.specs.declared.kind.Kind.TheVariants.{Step}
use Rattle.engine.specs.Rises.{greatest_at, greatest_below, low_height}

-- ---- whole numbers

-- S times a number, less y
abbrev behind : ℕ → ℤ → ℤ → ℤ
behind S a y = pos S *ℤ a -ℤ y

-- it grows with the number
behind_mono : (S : ℕ) (a b y : ℤ) → a ≤ℤ b → behind S a y ≤ℤ behind S b y
behind_mono S a b y h = omega (arith, ints, mul-le-mul_left S order)
  where
    order : up a + down b ≤ up b + down a
    order = omega (arith, ints)

-- a step of at most S is made up for by one unit
behind_step : (S D : ℕ) (a b y y' : ℤ) → a <ℤ b → D ≤ S → y' ≡ y +ℤ pos D → behind S a y ≤ℤ behind S b y'
behind_step S D a b y y' h l e = omega (arith, ints, mul-le-mul_left S order)
  where
    order : up a + down b + 1 ≤ up b + down a
    order = omega (arith, ints)

-- where it does not fall over a way of at most n, y rises by at most S × n
behind_out : (S n : ℕ) (a b y y' : ℤ) → behind S a y ≤ℤ behind S b y' → b ≤ℤ (a +ℤ pos n) → y' ≤ℤ (y +ℤ pos (S * n))
behind_out S n a b y y' h l = omega (arith, ints, mul-le-mul_left S order)
  where
    order : up b + down a ≤ up a + down b + n
    order = omega (arith, ints)

weaker : {a b : ℤ} → a <ℤ b → a ≤ℤ b
weaker h = omega (arith, ints)

module _ (k : ℕ → Knot) (top : ℕ) (law : Lawful k top) where
  abbrev S : ℕ
  S = greatest (height k) top

  abbrev under : ℕ → Fraction → Bool
  under i q = leᶠ (whole (k i).x) q

  -- the exact value, as a whole number
  abbrev level : Fraction → ℤ
  level = piecewise under (λ q. (k 0).y) (λ i q. (k i).y) top

  exact_is : (q : Fraction) → table_exact Step k top q ≡ whole (level q)
  unfolding table_exact exact_from
  exact_is q = sym (piecewise_map under (λ q. (k 0).y) (λ i q. (k i).y) (λ q v. whole v) top q)

  -- at a whole number it is the value
  level_is : (x : ℤ) → level (whole x) ≡ table_value Step k top x
  unfolding table_value value_from
  level_is x =
      piecewise_both (λ v w. v ≡ w) under (λ q. (k 0).y) (λ i q. (k i).y) (λ i x. int_le (k i).x x) (λ x. (k 0).y)
      (λ i x. (k i).y) top (whole x) x (λ i. same_test (k i).x x) refl (λ i l e n. refl) top (omega arith)
      (λ l. absurd (omega arith))

  pub at_whole : (x : ℤ) → table_exact Step k top (whole x) ≡ whole (table_value Step k top x)
  at_whole x = exact_is (whole x) ∙ ap whole (level_is x)

  -- ---- it is a coordinate, and does not fall

  level_fits : (q : Fraction) → Coordinate (level q)
  level_fits q =
      piecewise_both (λ v w. Coordinate v) under (λ q. (k 0).y) (λ i q. (k i).y) under (λ q. (k 0).y) (λ i q. (k i).y) top q
      q (λ i. refl) (law.y_fits 0 (omega arith)) (λ i l e n. law.y_fits i l) top (omega arith)
      (λ l. absurd (omega arith))

  levels : Pieces ◌≤ᶠ◌ ◌≤ᶠ◌ ◌≤ℤ◌ under (λ q. (k 0).y) (λ i q. (k i).y) (λ i. whole (k i).x) (λ i. (k i).y) top
  levels = record {
    before = λ p q h l. ≤ℤ_refl (k 0).y;
    before_high = λ p l. ≤ℤ_refl (k 0).y;
    low = λ i q l h r. ≤ℤ_refl (k i).y;
    high = λ i q l h r. law.y_rises i l;
    grows = λ i p q l h m r. ≤ℤ_refl (k i).y;
    trans = λ a b c h m. ≤ℤ_trans h m;
    knots = law.y_rises;
    yes_below = λ i q e. leᶠ_true (whole (k i).x) q e;
    not_below = λ i q e. leᶠ_false (whole (k i).x) q e;
    stays = stays k top S (λ i q. whole (k i).y);
  }

  level_mono : (p q : Fraction) → p ≤ᶠ q → level p ≤ℤ level q
  level_mono p q h =
      piecewise_mono ◌≤ᶠ◌ ◌≤ᶠ◌ ◌≤ℤ◌ under (λ q. (k 0).y) (λ i q. (k i).y) (λ i. whole (k i).x) (λ i. (k i).y) top levels
      top p q (omega arith) h (λ l. absurd (omega arith))

  -- ---- the rise

  jump : (i : ℕ) → i < top → height k i ≤ S
  jump i l = greatest_at (height k) top i l

  behinds : Pieces ◌≤ᶠ◌ (λ q r. leᶠ r q ≡ false) ◌≤ℤ◌ under (λ q. behind S (floorᶠ q) (k 0).y)
      (λ i q. behind S (floorᶠ q) (k i).y) (λ i. whole (k i).x) (λ i. behind S (k i).x (k i).y) top
  behinds = record {
    before = λ p q h l. behind_mono S (floorᶠ p) (floorᶠ q) (k 0).y (floor_mono p q h);
    before_high = λ p l. behind_mono S (floorᶠ p) (k 0).x (k 0).y (weaker (floor_below (k 0).x p l));
    low = λ i q l h r. behind_mono S (k i).x (floorᶠ q) (k i).y (floor_above (k i).x q h);
    high =
        λ i q l h r. behind_step S (height k i) (floorᶠ q) (k (suc i)).x (k i).y (k (suc i)).y
        (floor_below (k (suc i)).x q r) (jump i l) (y_is k top law i l);
    grows = λ i p q l h m r. behind_mono S (floorᶠ p) (floorᶠ q) (k i).y (floor_mono p q m);
    trans = λ a b c h m. ≤ℤ_trans h m;
    knots =
        λ i l. behind_step S (height k i) (k i).x (k (suc i)).x (k i).y (k (suc i)).y (law.x_rises i l) (jump i l)
        (y_is k top law i l);
    yes_below = λ i q e. leᶠ_true (whole (k i).x) q e;
    not_below = λ i q e. e;
    stays = stays k top S (λ i q. whole (k i).y);
  }

  level_rise : (n : ℕ) (p q : Fraction) → p ≤ᶠ q → q ≤ᶠ p +ᶠ whole (pos n) → level q ≤ℤ (level p +ℤ pos (S * n))
  level_rise n p q h r =
      behind_out S n (floorᶠ p) (floorᶠ q) (level p) (level q)
      (subst₂ ◌≤ℤ◌ (sym (lagging p)) (sym (lagging q))
      (piecewise_mono ◌≤ᶠ◌ (λ q r. leᶠ r q ≡ false) ◌≤ℤ◌ under (λ q. behind S (floorᶠ q) (k 0).y)
      (λ i q. behind S (floorᶠ q) (k i).y) (λ i. whole (k i).x) (λ i. behind S (k i).x (k i).y) top behinds top p q
      (omega arith) h (λ l. absurd (omega arith))))
      (floor_near n p q r)
    where
      lagging : (q : Fraction)
          → behind S (floorᶠ q) (level q)
          ≡ piecewise under (λ q. behind S (floorᶠ q) (k 0).y) (λ i q. behind S (floorᶠ q) (k i).y) top q
      lagging q = piecewise_map under (λ q. (k 0).y) (λ i q. (k i).y) (λ q v. behind S (floorᶠ q) v) top q

  -- ---- the rules

  exact_mono : (p q : Fraction) → p ≤ᶠ q → table_exact Step k top p ≤ᶠ table_exact Step k top q
  exact_mono p q h =
      subst₂ ◌≤ᶠ◌ (sym (exact_is p)) (sym (exact_is q)) (whole-≤ (level p) (level q) (level_mono p q h))

  pub step_rules : Rules
      (meaning (table_value Step k top) (table_exact Step k top) (table_rise Step k top) (table_radius Step))
  unfolding table_rise
  step_rules = record {
    rise_fits = greatest_below (height k) furthest top (low_height k top law);
    radius_fits = omega arith;
    value_fits = λ x _. subst Coordinate (level_is x) (level_fits (whole x));
    value_mono =
        λ x x' _ _ h. subst₂ ◌≤ℤ◌ (level_is x) (level_is x') (level_mono (whole x) (whole x') (whole-≤ x x' h));
    exact_fits = λ q _. subst Within (sym (exact_is q)) (whole_within (level q) (level_fits q));
    exact_mono = λ p q _ _ h. exact_mono p q h;
    exact_rise =
        λ n p q _ _ h r. subst₂ (λ e f. f ≤ᶠ e +ᶠ whole (pos (S * n))) (sym (exact_is p)) (sym (exact_is q))
        (≤ᶠ_trans (whole-≤ (level q) (level p +ℤ pos (S * n)) (level_rise n p q h r))
        (whole_sum (level p) (pos (S * n))).0);
    value_low =
        λ x _. subst (λ e. e ≤ᶠ whole (table_value Step k top x) +ᶠ whole (pos 0)) (sym (at_whole x))
        (+ᶠ_up (whole (table_value Step k top x)) 0);
    value_high =
        λ x _. subst (λ e. whole (table_value Step k top x) ≤ᶠ e +ᶠ whole (pos 0)) (sym (at_whole x))
        (+ᶠ_up (whole (table_value Step k top x)) 0);
  }
