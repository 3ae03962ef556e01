-- The rules of every lawful table of straight lines. Its exact curve is made of the straight pieces of
-- `Lines`, and its value is the exact value rounded.
use Rattle.std.specs.Prelude.{◌≡◌, ℕ, ◌*◌, ◌<◌, ◌≤◌, ℤ, pos, ◌+ℤ◌, ◌≤ℤ◌, int_le}
use Rattle.std.proofs.Math.Path.{refl, sym, subst, subst₂}
use Rattle.std.proofs.Common.{mul-le-mul_left, le_trans, arith}
use Rattle.engine.specs.Coordinates.{Coordinate, Within, lowest, highest, furthest}
use Rattle.engine.specs.Curves.{Rules, meaning}
use Rattle.engine.specs.Fraction.{Fraction, whole, ◌+ᶠ◌, ◌≤ᶠ◌, leᶠ, roundᶠ}
use Rattle.engine.specs.declared.knot.Knot.{Knot}
use Rattle.engine.specs.Pieces.{width, height, line_exact, line_from, line_through}
use Rattle.engine.specs.Orders.{whole-≤, same_test}
use Rattle.engine.specs.Terms.{Is-as}
use Rattle.engine.specs.Sums.{whole_within}
use Rattle.engine.specs.Piecewise.{piecewise_both}
use Rattle.engine.specs.Places.{Lawful, Place, wide}
use Rattle.engine.specs.Joins.{Joined, joined_mono, joined_rise, joined_fits}
use Rattle.engine.specs.Lines.{climb_is, line_joined}
use Rattle.engine.specs.Tables.{secant, exact_from, value_from, greatest, round_up}
use Rattle.engine.specs.Tables.{table_value, table_exact, table_rise, table_radius}
use Rattle.engine.specs.declared.kind.Kind.TheVariants.{Line}
use Rattle.engine.specs.Rounding.{nearest, round_shift, round_whole, round_mono, round_low, round_high, round_up_least}
use Rattle.engine.specs.Slopes.{secant_is}
use Rattle.engine.specs.Rises.{greatest_below, steep, low_height}

-- a fraction within the coordinates is rounded to one
round_fits : (q : Fraction) → Within q → Coordinate (roundᶠ q)
round_fits q f = record {
  low = subst (λ z. z ≤ℤ roundᶠ q) (round_whole lowest) (round_mono (whole lowest) q f.low);
  high = subst (λ z. roundᶠ q ≤ℤ z) (round_whole highest) (round_mono q (whole highest) f.high);
}

-- the rounded value of a straight piece, in naturals
pub piece_value : (s : Knot) (h D : ℕ) → 0 < h → (x : ℤ) (t : Place s.x h (whole x))
    → roundᶠ (line_exact s h D (whole x)) ≡ s.y +ℤ pos (nearest (D * t.from_start) h)
unfolding line_exact
piece_value s h D h_pos x t =
    round_shift s.y h_pos
    (Is-as (D * t.from_start) h (climb_is s h D h_pos (whole x) t) (omega arith) (omega arith))

module _ (k : ℕ → Knot) (top : ℕ) (law : Lawful k top) where
  -- the exact curve is the one of straight pieces
  pub exact_is : (q : Fraction) → table_exact Line k top q ≡ line_through k top q
  unfolding table_exact exact_from line_through
  exact_is q = refl

  -- the value is the exact value rounded
  pub value_is : (x : ℤ) → table_value Line k top x ≡ roundᶠ (table_exact Line k top (whole x))
  unfolding table_value value_from table_exact exact_from
  value_is x =
      piecewise_both (λ v e. v ≡ roundᶠ e) (λ i x. int_le (k i).x x) (λ x. (k 0).y) (value_from Line k top)
      (λ i q. leᶠ (whole (k i).x) q) (λ q. whole (k 0).y) (line_from k top) top x (whole x)
      (λ i. sym (same_test (k i).x x)) (sym (round_whole (k 0).y)) (λ i l e n. refl) top (omega arith)
      (λ l. absurd (omega arith))

  -- the rise: the greatest secant, rounded up
  abbrev pub steepest : ℕ
  steepest = greatest (λ i. round_up (secant k i)) top

  pub gentle : (i : ℕ) → i < top → height k i ≤ steepest * width k i
  gentle i l =
      let w = wide k top law i l in steep (secant k) top i (height k i) (width k i) l w (secant_is k i w)

  rise_fits : steepest ≤ furthest
  rise_fits = greatest_below (λ i. round_up (secant k i)) furthest top (λ i l.
      let w = wide k top law i l in
      round_up_least w (secant_is k i w) furthest
      (le_trans (low_height k top law i l) (mul-le-mul_left furthest w)))

  pub lines_joined : Joined k top steepest (line_from k top)
  lines_joined = line_joined k top law steepest gentle

  exact_within : (q : Fraction) → Within (table_exact Line k top q)
  unfolding table_exact exact_from
  exact_within q =
      joined_fits k top steepest (line_from k top) lines_joined (λ i l. whole_within (k i).y (law.y_fits i l)) q

  exact_mono : (p q : Fraction) → p ≤ᶠ q → table_exact Line k top p ≤ᶠ table_exact Line k top q
  unfolding table_exact exact_from
  exact_mono p q h = joined_mono k top steepest (line_from k top) lines_joined p q h

  exact_rise : (n : ℕ) (p q : Fraction) → p ≤ᶠ q → q ≤ᶠ p +ᶠ whole (pos n)
      → table_exact Line k top q ≤ᶠ table_exact Line k top p +ᶠ whole (pos (steepest * n))
  unfolding table_exact exact_from
  exact_rise n p q h r = joined_rise k top steepest (line_from k top) lines_joined n p q h r

  pub line_rules : Rules
      (meaning (table_value Line k top) (table_exact Line k top) (table_rise Line k top) (table_radius Line))
  unfolding table_rise
  line_rules = record {
    rise_fits = rise_fits;
    radius_fits = omega arith;
    value_fits = λ x _. subst Coordinate (sym (value_is x)) (round_fits _ (exact_within (whole x)));
    value_mono =
        λ x x' _ _ h. subst₂ ◌≤ℤ◌ (sym (value_is x)) (sym (value_is x'))
        (round_mono _ _ (exact_mono (whole x) (whole x') (whole-≤ x x' h)));
    exact_fits = λ q _. exact_within q;
    exact_mono = λ p q _ _ h. exact_mono p q h;
    exact_rise = λ n p q _ _ h r. exact_rise n p q h r;
    value_low =
        λ x _. subst (λ v. table_exact Line k top (whole x) ≤ᶠ whole v +ᶠ whole (pos 1)) (sym (value_is x))
        (round_low (table_exact Line k top (whole x)));
    value_high =
        λ x _. subst (λ v. whole v ≤ᶠ table_exact Line k top (whole x) +ᶠ whole (pos 1)) (sym (value_is x))
        (round_high (table_exact Line k top (whole x)));
  }
