-- Each slope is at most three secants of the piece before it and of the piece after it.
use Rattle.std.specs.Prelude.{◌≡◌, ℕ, zero, suc, ◌+◌, ◌*◌, ◌<◌, ◌≤◌, false, ◌||◌, pos, ◌==◌}
use Rattle.std.proofs.Math.Nat.{mul-le-mul}
use native.Mathlib.Omega.{arith}
use borrow.Author.Tests.{eqb-true, eqb-false}
use Rattle.std.proofs.lemmas.Bool.{or_parts}
use Rattle.engine.specs.Fraction.{whole}
use Rattle.engine.specs.declared.knot.Knot.{Knot}
use Rattle.engine.specs.Pieces.{width, height}
use Rattle.engine.specs.Orders.{by_test}
use Rattle.engine.specs.Terms.{Is, Is-over, Is-whole}
use Rattle.engine.specs.Places.{Lawful, LawfulTable, wide, narrow}
use Rattle.engine.specs.Tables.{secant, inner_slope, end_slope, slope}
use Rattle.engine.specs.CubicPieces.{Slope, Gentle}

-- the secant by its terms
pub secant_is : (k : ℕ → Knot) (i : ℕ) → 0 < width k i → Is (secant k i) (height k i) (width k i)
unfolding secant
secant_is k i h = Is-over (height k i) (width k i) h

-- the slope at an end knot: the bound that any rule for it owes
end_gentle : (k : ℕ → Knot) (i : ℕ) → 0 < width k i → Slope (end_slope k i) (width k i) (height k i)
unfolding end_slope
end_gentle k i h = record {
  a = height k i;
  b = width k i;
  is = secant_is k i h;
  b_pos = h;
  gentle = omega arith;
}

-- ---- the slope between two pieces

flat : (h D : ℕ) → Slope (whole (pos 0)) h D
flat h D = record { a = 0; b = 1; is = Is-whole 0; b_pos = omega arith; gentle = omega arith }

module _ (ha Da hb Db : ℕ) (ha_pos : 0 < ha) (hb_pos : 0 < hb) where
  -- it is at most three secants of a piece of width h and height D where the mean of Fritsch and Butland is
  inner_gentle : (h D : ℕ)
      → 3 * (ha + hb) * Da * Db * h ≤ 3 * D * ((2 * hb + ha) * ha * Db + (hb + 2 * ha) * hb * Da)
      → Slope (inner_slope ha Da hb Db) h D
  unfolding inner_slope
  inner_gentle h D bound = by_test (Da == 0 || Db == 0)
      (λ e. rw e (flat h D))
      (λ e. rw e (record {
        a = 3 * (ha + hb) * Da * Db;
        b = (2 * hb + ha) * ha * Db + (hb + 2 * ha) * hb * Da;
        is = Is-over _ _ (some e);
        b_pos = some e;
        gentle = bound;
      }))
    where
      some : (Da == 0 || Db == 0) ≡ false → 0 < (2 * hb + ha) * ha * Db + (hb + 2 * ha) * hb * Da
      some e =
          let n : ¬ (Db ≡ 0) = eqb-false Db 0 (or_parts (Da == 0) (Db == 0) e).1 in
          let p : 0 < Db = omega arith in
          omega (arith, mul-le-mul (mul-le-mul ha_pos ha_pos) p)

  inner_before : Slope (inner_slope ha Da hb Db) ha Da
  inner_before = inner_gentle ha Da (omega arith)

  inner_after : Slope (inner_slope ha Da hb Db) hb Db
  inner_after = inner_gentle hb Db (omega arith)

-- ---- the slopes of a table

module _ (k : ℕ → Knot) (top : ℕ) (law : Lawful k top) where
  -- at the start of piece i
  pub slope_start : (i : ℕ) → i < top → Slope (slope k top i) (width k i) (height k i)
  unfolding slope
  slope_start zero l = end_gentle k zero (wide k top law zero l)
  slope_start (suc i) l = by_test (suc i == top)
      (λ e. absurd (omega (arith, eqb-true (suc i) top e)))
      (λ e. rw e (inner_after _ _ _ _ (wide k top law i (omega arith)) (wide k top law (suc i) l)))

  -- and at its end
  pub slope_end : (i : ℕ) → i < top → Slope (slope k top (suc i)) (width k i) (height k i)
  unfolding slope
  slope_end i l = by_test (suc i == top)
      (λ e. rw e (end_gentle k i (wide k top law i l)))
      (λ e. let n : ¬ (suc i ≡ top) = eqb-false (suc i) top e in
      rw e (inner_before _ _ _ _ (wide k top law i l) (wide k top law (suc i) (omega arith))))

-- every piece of a cubic table is gentle
pub gentle_piece : (k : ℕ → Knot) (top : ℕ) → LawfulTable k top → (i : ℕ) → i < top
    → Gentle (width k i) (height k i) (slope k top i) (slope k top (suc i))
gentle_piece k top law i l = record {
  wide = wide k top law.knots i l;
  narrow = narrow k top law i l;
  start = slope_start k top law.knots i l;
  end = slope_end k top law.knots i l;
}
