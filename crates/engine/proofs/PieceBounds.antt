-- What the code of a piece needs: its products fit 64 bits, and its result is the defined one.
use Rattle.std.proofs.Common.{◌≡◌, ℕ, zero, suc, ◌+◌, ◌-◌, ◌*◌, ◌/◌, ◌%◌, ◌<◌, ◌≤◌, min, ℤ, pos, ◌+ℤ◌, ◌-ℤ◌, ◌*ℤ◌, sym, refl, ap, ◌∙◌, subst, ap₂, le_trans, mod-lt, mul-le-mul, le_antisymm, lt_of_mul-lt-mul_right, mul-le-mul_left, div-add-mod', le_of_mul-le-mul_right, arith, lit<}
use native.Mathlib.Nat.{le_dest, mul-div-mul_left}
use borrow.Author.Differences.{ints}
use Rattle.engine.specs.Fraction.{◌÷◌, whole, roundᶠ}
use Rattle.engine.specs.declared.knot.Knot.{Knot}
use Rattle.engine.specs.Pieces.{line_exact}
use Rattle.engine.specs.Orders.{whole-≤}
use Rattle.engine.specs.Places.{Place, place}
use Rattle.engine.specs.Terms.{Is, Is-over}
use Rattle.engine.specs.Tables.{cubic_N, cubic_value, round_up}
use Rattle.engine.specs.Forms.{form, form_mono, form_end}
use Rattle.engine.specs.CubicPieces.{joined}
use Rattle.engine.specs.LineRules.{piece_value}
use Rattle.engine.specs.Rounding.{nearest, nearest_mono, nearest_whole, round_is, round_up_holds, round_up_least}

-- n / w to nearest, with half of w added in place of twice n
halved : (k w : ℕ) → (k + 1024 * w) / (2048 * w) ≡ nearest k (2048 * w)
unfolding nearest
halved k w = sym (ap₂ ◌/◌ twice_top twice_bottom ∙ mul-div-mul_left {m = 2} (k + 1024 * w) (2048 * w) (lit< tt))
  where
    twice_top : k * 2 + 2048 * w ≡ 2 * (k + 1024 * w)
    twice_top = omega arith

    twice_bottom : 2048 * w * 2 ≡ 2 * (2048 * w)
    twice_bottom = omega arith

-- what a piece gains is the Bernstein form and what it loses
gain_is : (h d m n u v C : ℕ) → n * h + C ≡ 6144 * d
    → 2048 * d * (u * u) * (u + 3 * v) + m * h * u * (v * v) ≡ form (m * h) C (2048 * d) u v + n * h * (u * u) * v
gain_is h d m n u v C e = omega (arith, joined (m * h) (n * h) C (2048 * d) u v (omega arith))

-- ---- a cubic piece

-- of width h and height d, with stored slopes m and n of at most three secants, at u from its start
pub record Gauged (h d m n u : ℕ) : Type 0 where
  pub wide : 0 < h
  pub near : h ≤ 4096
  pub low : d ≤ 16383
  pub inside : u ≤ h
  pub gentle : m * h ≤ 6144 * d
  pub gentle_end : n * h ≤ 6144 * d

module _ {h d m n u : ℕ} (g : Gauged h d m n u) where
  -- each factor is bounded, so each product is
  u_small : u ≤ 4096
  u_small = omega (arith, g.inside, g.near)

  v_small : h - u ≤ 4096
  v_small = omega (arith, g.near)

  bent_small : u + 3 * (h - u) ≤ 3 * 4096
  bent_small = omega (arith, g.inside, g.near)

  pub height_gain : 2048 * d * (u * u) * (u + 3 * (h - u)) ≤ 2048 * 16383 * (4096 * 4096) * (3 * 4096)
  height_gain = mul-le-mul (mul-le-mul (mul-le-mul_left 2048 g.low) (mul-le-mul u_small u_small)) bent_small

  pub slope_gain : m * h * u * ((h - u) * (h - u)) ≤ 6144 * 16383 * 4096 * (4096 * 4096)
  slope_gain =
      mul-le-mul (mul-le-mul (le_trans g.gentle (mul-le-mul_left 6144 g.low)) u_small) (mul-le-mul v_small v_small)

  pub slope_loss : n * h * (u * u) * (h - u) ≤ 6144 * 16383 * (4096 * 4096) * 4096
  slope_loss =
      mul-le-mul (mul-le-mul (le_trans g.gentle_end (mul-le-mul_left 6144 g.low)) (mul-le-mul u_small u_small)) v_small

  pub cube_small : h * h * h ≤ 4096 * 4096 * 4096
  cube_small = mul-le-mul (mul-le-mul g.near g.near) g.near

  pub cube_some : 0 < h * h * h
  cube_some = mul-le-mul (mul-le-mul g.wide g.wide) g.wide

  -- what is gained, less what is lost, is the Bernstein form
  rest : (C : ℕ) × (n * h + C ≡ 6144 * d)
  rest = le_dest g.gentle_end

  abbrev N : ℕ
  N = form (m * h) rest.0 (2048 * d) u (h - u)

  gained : 2048 * d * (u * u) * (u + 3 * (h - u)) + m * h * u * ((h - u) * (h - u)) ≡ N + n * h * (u * u) * (h - u)
  gained = gain_is h d m n u (h - u) rest.0 rest.1

  pub loss_covered : n * h * (u * u) * (h - u)
      ≤ 2048 * d * (u * u) * (u + 3 * (h - u)) + m * h * u * ((h - u) * (h - u))
  loss_covered = omega (arith, gained)

  less : 2048 * d * (u * u) * (u + 3 * (h - u)) + m * h * u * ((h - u) * (h - u)) - n * h * (u * u) * (h - u) ≡ N
  less = omega (arith, gained)

  -- so is the N of the definition
  N_is : cubic_N h d (pos m) (pos n) (pos u) ≡ pos N
  unfolding cubic_N
  N_is =
      ap₂
      (λ z v.
      pos 2048 *ℤ pos d *ℤ (pos u *ℤ pos u) *ℤ z +ℤ pos m *ℤ pos h *ℤ pos u *ℤ (v *ℤ v)
      -ℤ pos n *ℤ pos h *ℤ (pos u *ℤ pos u) *ℤ v)
      bent rest_of
      ∙ total
    where
      rest_of : pos h -ℤ pos u ≡ pos (h - u)
      rest_of = omega (arith, ints)

      bent : pos (3 * h) -ℤ pos (2 * u) ≡ pos (u + 3 * (h - u))
      bent = omega (arith, ints)

      total : pos (2048 * d * (u * u) * (u + 3 * (h - u))) +ℤ pos (m * h * u * ((h - u) * (h - u)))
          -ℤ pos (n * h * (u * u) * (h - u)) ≡ pos N
      total = omega (arith, ints, gained)

  some : 0 < 2048 * (h * h * h)
  some = omega (arith, cube_some)

  -- the code's quotient is N / (2048 h³) to nearest
  abbrev quotient : ℕ
  quotient =
      (2048 * d * (u * u) * (u + 3 * (h - u)) + m * h * u * ((h - u) * (h - u)) - n * h * (u * u) * (h - u)
      + 1024 * (h * h * h))
      / (2048 * (h * h * h))

  quotient_is : quotient ≡ nearest N (2048 * (h * h * h))
  quotient_is = ap (λ a. (a + 1024 * (h * h * h)) / (2048 * (h * h * h))) less ∙ halved N (h * h * h)

  pub climb_is : pos quotient ≡ roundᶠ (cubic_N h d (pos m) (pos n) (pos u) ÷ (2048 * (h * h * h)))
  climb_is =
      ap pos quotient_is
      ∙ sym (round_is N (2048 * (h * h * h)) some)
      ∙ ap (λ z. roundᶠ (z ÷ (2048 * (h * h * h)))) (sym N_is)

  -- and no more than the height
  pub climb_small : quotient ≤ d
  climb_small =
      rw quotient_is
      (le_trans (nearest_mono N (d * (2048 * (h * h * h))) (2048 * (h * h * h)) some ends)
      (nearest_whole d (2048 * (h * h * h)) some))
    where
      ends : N ≤ d * (2048 * (h * h * h))
      ends =
          omega (
            arith,
            form_mono (m * h) rest.0 (2048 * d) u (h - u) h 0 (omega arith) (omega (arith, rest.1)) g.inside
                (omega arith),
            form_end (m * h) rest.0 (2048 * d) h,
          )

-- the value at x, from the way u to x and what the piece adds to y there
pub cubic_of : (p : Knot) (x s : ℤ) (h d m n u r : ℕ) → x ≡ p.x +ℤ pos u
    → pos r ≡ roundᶠ (cubic_N h d (pos m) (pos n) (pos u) ÷ (2048 * (h * h * h))) → s ≡ p.y +ℤ pos r
    → s ≡ cubic_value p h d (pos m) (pos n) x
unfolding cubic_value
cubic_of p x s h d m n u r e f g =
    g
    ∙ ap (λ z. p.y +ℤ z)
    (f ∙ ap (λ z. roundᶠ (cubic_N h d (pos m) (pos n) z ÷ (2048 * (h * h * h)))) (sym way))
  where
    way : x -ℤ p.x ≡ pos u
    way = omega (arith, ints)

-- ---- a straight piece of width h and height d, at u from its start

pub line_climb_is : (h d u : ℕ) → 0 < h → pos ((2 * d * u + h) / (2 * h)) ≡ roundᶠ (pos (d * u) ÷ h)
unfolding nearest
line_climb_is h d u k = ap pos (ap₂ ◌/◌ (omega arith) (omega arith)) ∙ sym (round_is (d * u) h k)

pub line_climb_small : (h d u : ℕ) → 0 < h → u ≤ h → (2 * d * u + h) / (2 * h) ≤ d
unfolding nearest
line_climb_small h d u k l =
    subst (λ n. n ≤ d) (ap₂ ◌/◌ (omega arith) (omega arith))
    (le_trans (nearest_mono (d * u) (d * h) h k (mul-le-mul_left d l)) (nearest_whole d h k))

pub line_of : (p : Knot) (x s : ℤ) (h d u r : ℕ) → 0 < h → u ≤ h → x ≡ p.x +ℤ pos u
    → pos r ≡ roundᶠ (pos (d * u) ÷ h) → s ≡ p.y +ℤ pos r → s ≡ roundᶠ (line_exact p h d (whole x))
line_of p x s h d u r k l e f g =
    g
    ∙ ap (λ z. p.y +ℤ z) (f ∙ round_is (d * u) h k ∙ ap (λ n. pos (nearest (d * n) h)) (sym from))
    ∙ sym (piece_value p h d k x at)
  where
    at : Place p.x h (whole x)
    at = place p.x (p.x +ℤ pos h) h (whole x) refl (whole-≤ p.x x (omega (arith, ints)))
        (whole-≤ x (p.x +ℤ pos h) (omega (arith, ints)))

    from : at.from_start ≡ u
    from = omega (arith, ints, at.terms.same)

-- ---- a quotient rounded up

pub quotient_up_is : (a b : ℕ) → 0 < b → a / b + min 1 (a % b) ≡ round_up (pos a ÷ b)
quotient_up_is a b h =
    le_antisymm
    (least (a / b) (a % b) (round_up (pos a ÷ b)) (omega (arith, div-add-mod' a b, round_up_holds h is)))
    (round_up_least h is (a / b + min 1 (a % b))
    (subst (λ n. n ≤ (a / b + min 1 (a % b)) * b) (div-add-mod' a b) (enough (a / b) (a % b) (mod-lt a h))))
  where
    is : Is (pos a ÷ b) a b
    is = Is-over a b h

    enough : (q r : ℕ) → r < b → q * b + r ≤ (q + min 1 r) * b
    enough q zero l = let e : min 1 zero ≡ 0 = omega arith in rw e (omega arith)
    enough q (suc r) l = let e : min 1 (suc r) ≡ 1 = omega arith in rw e (omega arith)

    -- n is at least q, and above it where something is left
    least : (q r n : ℕ) → q * b + r ≤ n * b → q + min 1 r ≤ n
    least q zero n l = let k : q ≤ n = le_of_mul-le-mul_right {k = b} (omega arith) h in omega arith
    least q (suc r) n l = let k : q < n = lt_of_mul-lt-mul_right b (omega arith) in omega arith
