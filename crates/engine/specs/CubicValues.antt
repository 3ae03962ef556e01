-- The values of a cubic piece: they do not fall, are the knots' at its two ends, and lie within 1 of the exact values.
use Rattle.std.specs.Prelude.{◌≡◌, ℕ, suc, ◌+◌, ◌*◌, ◌<◌, ◌≤◌, ℤ, pos, ◌+ℤ◌, ◌-ℤ◌, ◌*ℤ◌, ◌≤ℤ◌}
use Rattle.std.proofs.Math.Path.{ap, ap₂}
use Rattle.std.proofs.Common.{◌∙◌, mul-le-mul_left, mul-le-mul_right, le_of_mul-le-mul_right, arith}
use Rattle.std.proofs.Math.Nat.{le_dest}
use Rattle.std.proofs.Math.IntN.{+ℤ_idr}
use borrow.Author.Differences.{ints, up, down}
use Rattle.engine.specs.Fraction.{Fraction, ◌÷◌, whole, ◌+ᶠ◌, roundᶠ}
use Rattle.engine.specs.declared.knot.Knot.{Knot}
use Rattle.engine.specs.Pieces.{widest}
use Rattle.engine.specs.Terms.{Val, Is-Val, Val-shift, Val-whole, Val-≤}
use Rattle.engine.specs.Sums.{Val-add}
use Rattle.engine.specs.Places.{Place}
use Rattle.engine.specs.Tables.{cubic_exact, cubic_value, cubic_N, stored}
use Rattle.engine.specs.Forms.{form, form_mono, form_start, form_end, quarter}
use Rattle.engine.specs.Rounding.{nearest, nearest_low, nearest_high, nearest_mono, nearest_whole, nearest_exact}
use Rattle.engine.specs.Rounding.{round_is, Stored, stored_is}
use Rattle.engine.specs.CubicPieces.{joined, cube_pos, Slope, Gentle, rest, F, W, W_pos, climb, climb_is}
use Rattle.engine.specs.CubicPieces.{at_start, at_end}
use Rattle.engine.specs.Wholes.{Close}

-- ---- stored slopes

-- the stored slope, by the terms of the slope
pub stored_of : {m : Fraction} {h D : ℕ} (σ : Slope m h D) → Stored m σ.a σ.b
stored_of σ = stored_is σ.b_pos σ.is

-- a stored slope is at most three secants too
pub stored_gentle : {m : Fraction} {h D : ℕ} (σ : Slope m h D) → (stored_of σ).c * h ≤ 3 * (2048 * D)
stored_gentle {h = h} {D} σ = go σ.a σ.b (stored_of σ).c σ.b_pos σ.gentle (stored_of σ).low
  where
    go : (a b c : ℕ) → 0 < b → a * h ≤ 3 * D * b → c * b ≤ 2048 * a → c * h ≤ 3 * (2048 * D)
    go a b c k l u = le_of_mul-le-mul_right {k = b} (omega (arith, mul-le-mul_right h u)) k

-- ---- the distance from the exact value, in naturals

-- a stored slope is below its slope by less than 1/2048; b' is the denominator of the other slope, w their product
slope_near : {m : Fraction} {h D w : ℕ} (b' Q : ℕ) (σ : Slope m h D) → w ≡ σ.b * b'
    → (w * ((stored_of σ).c * h * Q) ≤ 2048 * (σ.a * h * b' * Q)) ×
    (2048 * (σ.a * h * b' * Q) ≤ w * ((stored_of σ).c * h * Q) + w * (h * Q))
slope_near {h = h} b' Q σ e =
    rw e (go σ.a σ.b (stored_of σ).c (stored_of σ).low (stored_of σ).high)
  where
    go : (a b c : ℕ) → c * b ≤ 2048 * a → 2048 * a < suc c * b
        → (b * b' * (c * h * Q) ≤ 2048 * (a * h * b' * Q)) ×
        (2048 * (a * h * b' * Q) ≤ b * b' * (c * h * Q) + b * b' * (h * Q))
    go a b c l u = (omega (arith, mul-le-mul_right (h * b' * Q) l), omega (arith, mul-le-mul_right (h * b' * Q) u))

-- the exact numerator F over w and the stored one N over 2048: p and q are what the slopes add and take away
numerators : (w F N P p q p₀ q₀ x y : ℕ) → F + q ≡ w * P + p → N + q₀ ≡ 2048 * P + p₀
    → (w * p₀ ≤ 2048 * p) × (2048 * p ≤ w * p₀ + w * x) → (w * q₀ ≤ 2048 * q) × (2048 * q ≤ w * q₀ + w * y)
    → (2048 * F ≤ w * N + w * x) × (w * N ≤ 2048 * F + w * y)
numerators w F N P p q p₀ q₀ x y e f g k = (omega (arith, n), omega (arith, n))
  where
    n : w * N + w * q₀ ≡ 2048 * (w * P) + w * p₀
    n = omega (arith, ap (λ m. w * m) f)

-- with rounding: the value r is within 1 of F / (w·H)
rounded : (w F N x y H r : ℕ) → (2048 * F ≤ w * N + w * x) × (w * N ≤ 2048 * F + w * y) → 2 * x ≤ 2048 * H
    → 2 * y ≤ 2048 * H → r * (2048 * H * 2) ≤ N * 2 + 2048 * H → N * 2 + 2048 * H < suc r * (2048 * H * 2)
    → (F ≤ r * (w * H) + w * H) × (r * (w * H) ≤ F + w * H)
rounded w F N x y H r e l l' low high = (
  omega (arith, mul-le-mul_left w l, mul-le-mul_left w high),
  omega (arith, mul-le-mul_left w l', mul-le-mul_left w low),
)

-- h·u·v² is at most 1024·h³
small : (u v h : ℕ) → u + v ≡ h → h ≤ widest → 2 * (h * (u * v * v)) ≤ 2048 * (h * h * h)
small u v h e l = omega (arith, mul-le-mul_right h quarter_h, mul-le-mul_right (h * h * h) l)
  where
    quarter_h : 4 * (u * v * v) ≤ h * h * h
    quarter_h = rw (← e) (quarter u v)

-- the same as an order of fractions: the exact value is y + F / W, the whole one z = y + r
fit_low : (yu yd zu zd r F W : ℕ) → zu + yd ≡ zd + yu + r → F ≤ r * W + W
    → (yu * W + F) * 1 + zd * W ≤ (zu + 1 * 1) * W + (yd * W + 0) * 1
fit_low yu yd zu zd r F W e l = omega (arith, ap (λ n. n * W) e)

fit_high : (yu yd zu zd r F W : ℕ) → zu + yd ≡ zd + yu + r → r * W ≤ F + W
    → zu * W + (yd * W + 0) * 1 ≤ (yu * W + F + 1 * W) * 1 + zd * W
fit_high yu yd zu zd r F W e l = omega (arith, ap (λ n. n * W) e)

-- ---- one piece

module _ {h D : ℕ} {m m' : Fraction} (g : Gentle h D m m') where
  -- the stored slopes at its ends
  abbrev c : ℕ
  c = (stored_of g.start).c

  abbrev c' : ℕ
  c' = (stored_of g.end).c

  left : (C : ℕ) × (c' * h + C ≡ 3 * (2048 * D))
  left = le_dest (stored_gentle g.end)

  left_small : left.0 ≤ 3 * (2048 * D)
  left_small = omega (arith, left.1)

  -- its numerator, and the denominator
  abbrev N : (u v : ℕ) → ℕ
  N u v = form (c * h) left.0 (2048 * D) u v

  abbrev H : ℕ
  H = 2048 * (h * h * h)

  H_pos : 0 < H
  H_pos = omega (arith, cube_pos g.wide)

  N_is : (u v : ℕ) → u + v ≡ h → cubic_N h D (pos c) (pos c') (pos u) ≡ pos (N u v)
  unfolding cubic_N
  N_is u v e =
      ap₂
      (λ z w. pos 2048 *ℤ pos D *ℤ (pos u *ℤ pos u) *ℤ z +ℤ pos c *ℤ pos h *ℤ pos u *ℤ (w *ℤ w)
      -ℤ pos c' *ℤ pos h *ℤ (pos u *ℤ pos u) *ℤ w)
      bent short
      ∙ total
    where
      short : pos h -ℤ pos u ≡ pos v
      short = omega (arith, ints)

      bent : pos (3 * h) -ℤ pos (2 * u) ≡ pos (u + 3 * v)
      bent = omega (arith, ints)

      total : pos (2048 * D * (u * u) * (u + 3 * v)) +ℤ pos (c * h * u * (v * v)) -ℤ pos (c' * h * (u * u) * v)
          ≡ pos (N u v)
      total = omega (arith, ints, joined (c * h) (c' * h) left.0 (2048 * D) u v (omega (arith, left.1)))

  N_mono : (u v u' v' : ℕ) → u ≤ u' → u + v ≡ u' + v' → N u v ≤ N u' v'
  N_mono u v u' v' = form_mono (c * h) left.0 (2048 * D) u v u' v' (stored_gentle g.start) left_small

  N_end : N h 0 ≡ D * H
  N_end = omega (arith, form_end (c * h) left.0 (2048 * D) h)

  -- the piece from the knot s
  module _ (s : Knot) where
    abbrev value : ℤ → ℤ
    value x = cubic_value s h D (stored m) (stored m') x

    -- the numerator at a place
    abbrev at : {q : Fraction} → Place s.x h q → ℕ
    at t = N t.from_start t.to_end

    offset_is : (x : ℤ) (t : Place s.x h (whole x)) → x -ℤ s.x ≡ pos t.from_start
    offset_is x t = omega (arith, ints, t.terms.same)

    -- its value at a place
    value_is : (x : ℤ) (t : Place s.x h (whole x)) → value x ≡ s.y +ℤ pos (nearest (at t) H)
    unfolding cubic_value
    value_is x t =
        ap (λ z. s.y +ℤ roundᶠ (z ÷ H))
        (parts (stored_of g.start).is (stored_of g.end).is (offset_is x t)
        ∙ N_is t.from_start t.to_end (omega (arith, t.split)))
        ∙ ap (λ z. s.y +ℤ z) (round_is (at t) H H_pos)
      where
        parts : {M M' u : ℤ} → M ≡ pos c → M' ≡ pos c' → u ≡ pos t.from_start
            → cubic_N h D M M' u ≡ cubic_N h D (pos c) (pos c') (pos t.from_start)
        parts p q r = λ i. cubic_N h D (p i) (q i) (r i)

    -- it does not fall
    pub value_grows : (x x' : ℤ) → Place s.x h (whole x) → Place s.x h (whole x') → x ≤ℤ x' → value x ≤ℤ value x'
    value_grows x x' t t' l =
        rw (value_is x t, value_is x' t') (omega (arith, ints, nearest_mono (at t) (at t') H H_pos grows))
      where
        below : t.from_start ≤ t'.from_start
        below = omega (arith, ints, l, offset_is x t, offset_is x' t')

        grows : at t ≤ at t'
        grows = N_mono _ _ _ _ below (omega (arith, t.split, t'.split))

    -- it keeps between the knots' values
    pub value_low : (x : ℤ) → Place s.x h (whole x) → s.y ≤ℤ value x
    value_low x t = rw (value_is x t) (omega (arith, ints))

    pub value_high : (x : ℤ) → Place s.x h (whole x) → value x ≤ℤ (s.y +ℤ pos D)
    value_high x t =
        rw (value_is x t) (omega (arith, ints, nearest_mono (at t) (D * H) H H_pos most, nearest_whole D H H_pos))
      where
        ends : at t ≤ N h 0
        ends = N_mono _ _ _ _ (omega (arith, t.split)) (omega (arith, t.split))

        most : at t ≤ D * H
        most = omega (arith, ends, N_end)

    -- and has them at its two ends
    pub value_start : Place s.x h (whole s.x) → value s.x ≡ s.y
    value_start t =
        value_is s.x t ∙ ap (λ n. s.y +ℤ pos n) (nearest_exact (at t) 0 H H_pos (none ∙ omega arith))
        ∙ +ℤ_idr s.y
      where
        none : at t ≡ 0
        none = ap (λ u. N u t.to_end) (at_start g s t) ∙ form_start (c * h) left.0 (2048 * D) t.to_end

    pub value_end : (s' : Knot) → s'.x ≡ s.x +ℤ pos h → Place s.x h (whole s'.x)
        → value s'.x ≡ s.y +ℤ pos D
    value_end s' e t = value_is s'.x t ∙ ap (λ n. s.y +ℤ pos n) (nearest_exact (at t) D H H_pos full)
      where
        full : at t ≡ D * H
        full = ap₂ N (at_end g s s' e t).0 (at_end g s s' e t).1 ∙ N_end

    -- the radius on the piece
    pub value_close : (x : ℤ) → Place s.x h (whole x) → Close (value x) (cubic_exact s h D m m' (whole x))
    unfolding cubic_exact
    value_close x t = rw (value_is x t) (
      Val-≤ (W_pos g (whole x)) (omega arith) exact (Val-add 1 (Val-whole z))
          (fit_low (up s.y) (down s.y) (up z) (down z) r (F g u v) K moved (omega (arith, near.0))),
      Val-≤ (omega arith) (W_pos g (whole x)) (Val-whole z) (Val-add 1 exact)
          (fit_high (up s.y) (down s.y) (up z) (down z) r (F g u v) K moved (omega (arith, near.1))),
    )
      where
        u : ℕ
        u = t.from_start

        v : ℕ
        v = t.to_end

        uv : u + v ≡ h
        uv = omega (arith, t.split)

        -- the value is z = y + r
        r : ℕ
        r = nearest (N u v) H

        z : ℤ
        z = s.y +ℤ pos r

        moved : up z + down s.y ≡ down z + up s.y + r
        moved = omega (arith, ints)

        -- the exact value is y + F / K
        K : ℕ
        K = W g 1

        exact : Val (whole s.y +ᶠ climb g s (whole x)) (up s.y * K + F g u v) (down s.y * K + 0) K
        exact = Val-shift s.y (Is-Val (climb_is g s (whole x) t))

        -- the slopes m = a / b and m' = a' / b'
        a : ℕ
        a = g.start.a

        b : ℕ
        b = g.start.b

        a' : ℕ
        a' = g.end.a

        b' : ℕ
        b' = g.end.b

        exact_sum : F g u v + a' * h * b * (u * u * v) ≡ b * b' * (D * (u * u * (u + 3 * v))) + a * h * b' * (u * v * v)
        exact_sum =
            omega (arith, joined (a * h * b') (a' * h * b) (rest g).0 (D * (b * b')) u v (omega (arith, (rest g).1)))

        stored_sum : N u v + c' * h * (u * u * v) ≡ 2048 * (D * (u * u * (u + 3 * v))) + c * h * (u * v * v)
        stored_sum = omega (arith, joined (c * h) (c' * h) left.0 (2048 * D) u v (omega (arith, left.1)))

        near : (F g u v ≤ r * (b * b' * (h * h * h)) + b * b' * (h * h * h)) ×
            (r * (b * b' * (h * h * h)) ≤ F g u v + b * b' * (h * h * h))
        near =
            rounded (b * b') (F g u v) (N u v) (h * (u * v * v)) (h * (u * u * v)) (h * h * h) r
            (numerators (b * b') (F g u v) (N u v) (D * (u * u * (u + 3 * v))) (a * h * b' * (u * v * v))
            (a' * h * b * (u * u * v)) (c * h * (u * v * v)) (c' * h * (u * u * v)) (h * (u * v * v)) (h * (u * u * v))
            exact_sum stored_sum (slope_near b' (u * v * v) g.start (omega arith))
            (slope_near b (u * u * v) g.end (omega arith)))
            (small u v h uv g.narrow) (omega (arith, small v u h (omega arith) g.narrow))
            (nearest_low (N u v) H) (nearest_high (N u v) H H_pos)
