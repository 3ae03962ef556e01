-- Rounding to nearest, rounding up, and stored slopes, in natural numbers.
use Rattle.std.specs.Prelude.{◌≡◌, ℕ, suc, ◌+◌, ◌-◌, ◌*◌, ◌/◌, ◌<◌, ◌≤◌, ℤ, pos, ◌+ℤ◌, ◌*ℤ◌, ◌≤ℤ◌}
use Rattle.std.proofs.Common.{ap, ap₂, subst, ◌∙◌, ⊎_elim, mul-le-mul_right, le_of_mul-le-mul_right, lt_of_mul-lt-mul_right, arith}
use Rattle.std.specs.Int.Signed.{shr_z}
use borrow.Author.Differences.{ints, up, down}
use Rattle.std.proofs.lemmas.Nat.{le-div}
use Rattle.engine.specs.Fraction.{Fraction, den, ◌÷◌, whole, ◌+ᶠ◌, ◌*ᶠ◌, ◌≤ᶠ◌, ◌≈ᶠ◌, ceilᶠ, roundᶠ}
use Rattle.engine.specs.Orders.{≤ᶠ_trans, ≤ᶠ_total, ≤ℤ_antisym, whole-≤_out}
use Rattle.engine.specs.Terms.{Is, Is-whole, Is-over, Is-Val, Is-≤, Val, val, Val-whole}
use Rattle.engine.specs.Terms.{Val-shift, Val-+, Val-≤, Val-≤_out}
use Rattle.engine.specs.Sums.{+ᶠ_both, Val-add, whole_sum}
use Rattle.engine.specs.Floors.{floor_above, floor_whole, floor_mono, floor_by_terms, ceil_is}
use Rattle.engine.specs.Tables.{stored, round_up}

-- ---- to nearest

-- n / w to nearest
unfoldable pub nearest : ℕ → ℕ → ℕ
nearest n w = (n * 2 + w) / (w * 2)

-- it is within one half of the quotient
pub nearest_low : (n w : ℕ) → nearest n w * (w * 2) ≤ n * 2 + w
unfolding nearest
nearest_low n w = omega arith

pub nearest_high : (n w : ℕ) → 0 < w → n * 2 + w < suc (nearest n w) * (w * 2)
unfolding nearest
nearest_high n w h = omega arith

pub nearest_mono : (n n' w : ℕ) → 0 < w → n ≤ n' → nearest n w ≤ nearest n' w
unfolding nearest
nearest_mono n n' w h l =
    le-div ((n * 2 + w) / (w * 2)) (n' * 2 + w) (w * 2) (omega arith) (omega (arith, nearest_low n w))

-- a whole quotient d is its own nearest
pub nearest_whole : (d w : ℕ) → 0 < w → nearest (d * w) w ≤ d
nearest_whole d w h =
    let l : nearest (d * w) w < suc d = lt_of_mul-lt-mul_right (w * 2) (omega (arith, nearest_low (d * w) w)) in
    omega arith

pub nearest_exact : (n d w : ℕ) → 0 < w → n ≡ d * w → nearest n w ≡ d
nearest_exact n d w h e = rw e (omega (arith, nearest_whole d w h, least))
  where
    least : d < suc (nearest (d * w) w)
    least = lt_of_mul-lt-mul_right (w * 2) (omega (arith, nearest_high (d * w) w h))

-- rounding a quotient of naturals
pub round_is : (n w : ℕ) → 0 < w → roundᶠ (pos n ÷ w) ≡ pos (nearest n w)
unfolding ◌+ᶠ◌ nearest
round_is n w h = ap pos (ap₂ ◌/◌ (omega arith) (omega arith))

-- one half by its terms
half : Val (pos 1 ÷ 2) 1 0 2
half = Is-Val (Is-over 1 2 (omega arith))

-- rounding a whole number and a quotient of naturals
pub round_shift : (y : ℤ) {q : Fraction} {a b : ℕ} → 0 < b → Is q a b → roundᶠ (whole y +ᶠ q) ≡ y +ℤ pos (nearest a b)
round_shift y {q} {a} {b} h i =
    floor_by_terms z (omega arith) (Val-+ (Val-shift y (Is-Val i)) half)
    (omega (arith, ap (λ n. n * (b * 2)) moved, nearest_low a b))
    (omega (arith, ap (λ n. n * (b * 2)) moved, nearest_high a b h))
  where
    z : ℤ
    z = y +ℤ pos (nearest a b)

    moved : up z + down y ≡ down z + up y + nearest a b
    moved = omega (arith, ints)

-- rounding a whole number
pub round_whole : (y : ℤ) → roundᶠ (whole y) ≡ y
round_whole y = floor_by_terms y (omega arith) (Val-shift y half) (omega arith) (omega arith)

pub round_mono : (p q : Fraction) → p ≤ᶠ q → roundᶠ p ≤ℤ roundᶠ q
round_mono p q h = floor_mono (p +ᶠ pos 1 ÷ 2) (q +ᶠ pos 1 ÷ 2) (+ᶠ_both (pos 1 ÷ 2) h)

-- what is a whole number is rounded to it
pub round_same : (q : Fraction) (y : ℤ) → q ≈ᶠ whole y → roundᶠ q ≡ y
round_same q y e = ≤ℤ_antisym (round_mono q (whole y) e.0) (round_mono (whole y) q e.1) ∙ round_whole y

-- rounding moves a fraction by less than 1
pub round_low : (q : Fraction) → q ≤ᶠ whole (roundᶠ q) +ᶠ whole (pos 1)
round_low q = ⊎_elim
    (λ h. ≤ᶠ_trans h (whole_sum (roundᶠ q) (pos 1)).0)
    (λ h. absurd (clash (roundᶠ q) (floor_above (roundᶠ q +ℤ pos 1) (q +ᶠ pos 1 ÷ 2) (≤ᶠ_trans h more))))
    (≤ᶠ_total q (whole (roundᶠ q +ℤ pos 1)))
  where
    clash : (z : ℤ) → (z +ℤ pos 1) ≤ℤ z → ⊥
    clash z h = omega (arith, ints)

    more : q ≤ᶠ q +ᶠ pos 1 ÷ 2
    more =
        Val-≤ (omega arith) (omega arith) (val q) (Val-+ (val q) half) (go (up q.num) (down q.num) (den q))
      where
        go : (a b d : ℕ) → a * (d * 2) + (b * 2 + 0 * d) * d ≤ (a * 2 + 1 * d) * d + b * (d * 2)
        go a b d = omega arith

pub round_high : (q : Fraction) → whole (roundᶠ q) ≤ᶠ q +ᶠ whole (pos 1)
round_high q =
    ≤ᶠ_trans (floor_whole (q +ᶠ pos 1 ÷ 2))
    (Val-≤ (omega arith) (omega arith) (Val-+ (val q) half) (Val-add 1 (val q))
    (go (up q.num) (down q.num) (den q)))
  where
    go : (a b d : ℕ) → (a * 2 + 1 * d) * d + b * (d * 2) ≤ (a + 1 * d) * (d * 2) + (b * 2 + 0 * d) * d
    go a b d = omega arith

-- ---- up

module _ {q : Fraction} {a b : ℕ} (h : 0 < b) (i : Is q a b) where
  -- what is rounded up is no negative number
  up_is : ceilᶠ q ≡ pos (round_up q)
  up_is = let l = whole-≤_out (pos 0) (ceilᶠ q) (≤ᶠ_trans none (ceil_is q).not_below) in omega (arith, ints)
    where
      none : whole (pos 0) ≤ᶠ q
      none = Is-≤ (omega arith) h (Is-whole 0) i (omega arith)

  -- a / b rounded up is at least a / b
  pub round_up_holds : a ≤ round_up q * b
  round_up_holds =
      let above = subst (λ z. q ≤ᶠ whole z) up_is (ceil_is q).not_below in
      omega (arith, Val-≤_out (Is-Val i) (Val-whole (pos (round_up q))) above)

  -- and at most n where a / b is
  pub round_up_least : (n : ℕ) → a ≤ n * b → round_up q ≤ n
  round_up_least n l =
      let below = Is-≤ h (omega arith) i (Is-whole n) (omega arith) in
      let k = subst (λ z. z ≤ℤ pos n) up_is ((ceil_is q).least (pos n) below) in
      omega (arith, ints)

-- ---- stored slopes

-- the stored slope c of m = a / b
pub record Stored (m : Fraction) (a b : ℕ) : Type 0 where
  pub c : ℕ
  pub is : stored m ≡ pos c
  pub low : c * b ≤ 2048 * a
  pub high : 2048 * a < suc c * b

-- every slope that is not negative has one
pub stored_is : {m : Fraction} {a b : ℕ} → 0 < b → Is m a b → Stored m a b
unfolding ◌*ᶠ◌
stored_is {m} {a} {b} h i = record {
  c = c;
  is = ap₂ shr_z (ap (λ z. pos 2048 *ℤ z) i.num_is) one;
  low = low a b i.top (den m) c (omega arith) (omega arith) i.same;
  high = high a b i.top (den m) c (omega arith) h (omega arith) i.same;
}
  where
    c : ℕ
    c = 2048 * i.top / den m

    one : suc (1 * suc m.less - 1) ≡ den m
    one = omega arith

    low : (a b t d c : ℕ) → 0 < d → c * d ≤ 2048 * t → t * b ≡ a * d → c * b ≤ 2048 * a
    low a b t d c k l e = le_of_mul-le-mul_right {k = d} (omega (arith, mul-le-mul_right b l, e)) k

    high : (a b t d c : ℕ) → 0 < d → 0 < b → 2048 * t < suc c * d → t * b ≡ a * d → 2048 * a < suc c * b
    high a b t d c k kb l e = lt_of_mul-lt-mul_right d (omega (arith, mul-le-mul_right b l, e))
