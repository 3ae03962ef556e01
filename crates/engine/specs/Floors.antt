-- Rounding does what its words say.
use Rattle.std.specs.Prelude.{◌≡◌, ℕ, ◌+◌, ◌*◌, ◌<◌, ◌≤◌, false, ℤ, pos, negsuc, ◌+ℤ◌, ◌-ℤ◌, neg_ℤ, ◌≤ℤ◌, ◌<ℤ◌, refl}
use Rattle.std.proofs.Common.{ap, lt_of_mul-lt-mul_right, arith}
use Rattle.std.specs.Int.Signed.{shr_z}
use borrow.Author.Differences.{ints, up, down}
use Rattle.engine.specs.Fraction.{Fraction, den, ◌÷◌, whole, ◌+ᶠ◌, ◌≤ᶠ◌, leᶠ}
use Rattle.engine.specs.Fraction.{floorᶠ, ceilᶠ, GreatestNotAbove, LeastNotBelow}
use Rattle.engine.specs.Theorems.{RoundingRules}
use Rattle.engine.specs.Orders.{≤ᶠ_out, ≤ᶠ_in, ≤ᶠ_trans}
use Rattle.engine.specs.Terms.{Val, val, Val-whole, Val-≤, Val-≤_out}
use Rattle.engine.specs.Sums.{Val-add}

-- f·d ≤ n < (f + 1)·d, for the floor f of n / d
floor_by : (n : ℤ) (d : ℕ) → 0 < d
    → (up (shr_z n d) * d + down n ≤ up n + down (shr_z n d) * d) ×
    (up n + down (shr_z n d) * d < up (shr_z n d) * d + down n + d)
floor_by (pos a) d h = omega arith
floor_by (negsuc a) d h = omega arith

pub floor_low : (q : Fraction) → up (floorᶠ q) * den q + down q.num ≤ up q.num + down (floorᶠ q) * den q
floor_low q = (floor_by q.num (den q) (omega arith)).0

pub floor_high : (q : Fraction)
    → up q.num + down (floorᶠ q) * den q < up (floorᶠ q) * den q + down q.num + den q
floor_high q = (floor_by q.num (den q) (omega arith)).1

-- a whole number at or below q is at or below its floor
pub floor_above : (x : ℤ) (q : Fraction) → whole x ≤ᶠ q → x ≤ℤ floorᶠ q
floor_above x q h =
    let l : up x + down (floorᶠ q) < up (floorᶠ q) + down x + 1 = lt_of_mul-lt-mul_right (den q)
    (omega (arith, ≤ᶠ_out h, floor_high q)) in omega (arith, ints)

pub floor_whole : (q : Fraction) → whole (floorᶠ q) ≤ᶠ q
floor_whole q = ≤ᶠ_in (whole (floorᶠ q)) q (omega (arith, floor_low q))

-- a whole number that is not at or below q is above its floor
pub floor_below : (x : ℤ) (q : Fraction) → leᶠ (whole x) q ≡ false → floorᶠ q <ℤ x
floor_below x q e =
    let l : up (floorᶠ q) + down x < up x + down (floorᶠ q) = lt_of_mul-lt-mul_right (den q)
    (omega (arith, strict, floor_low q)) in omega (arith, ints)
  where
    strict : up q.num + down x * den q < up x * den q + down q.num
    strict = omega (arith, ints, e)

pub floor_mono : (p q : Fraction) → p ≤ᶠ q → floorᶠ p ≤ℤ floorᶠ q
floor_mono p q h = floor_above (floorᶠ p) q (≤ᶠ_trans (floor_whole p) h)

-- q ≤ p + n, for a whole number n
pub floor_near : (n : ℕ) (p q : Fraction) → q ≤ᶠ p +ᶠ whole (pos n) → floorᶠ q ≤ℤ (floorᶠ p +ℤ pos n)
floor_near n p q h =
    let k = floor_above less p
    (≤ᶠ_in (whole less) p
    (omega (
      arith,
      Val-≤_out (Val-whole (floorᶠ q)) (Val-add n (val p)) (≤ᶠ_trans (floor_whole q) h),
      ap (λ m. m * den p) parts,
    ))) in
    omega (arith, ints)
  where
    less : ℤ
    less = floorᶠ q -ℤ pos n

    parts : up less + down (floorᶠ q) + n ≡ down less + up (floorᶠ q)
    parts = omega (arith, ints)

-- the floor from any terms: z ≤ (a - b) / d < z + 1
pub floor_by_terms : {q : Fraction} {a b d : ℕ} (z : ℤ) → 0 < d → Val q a b d → up z * d + b ≤ a + down z * d
    → a + down z * d < up z * d + b + d → floorᶠ q ≡ z
floor_by_terms {q} {a} {b} {d} z h v l u =
    let low = floor_above z q (Val-≤ (omega arith) h (Val-whole z) v (omega arith)) in
    let high : up (floorᶠ q) + down z < up z + down (floorᶠ q) + 1 = lt_of_mul-lt-mul_right d
    (omega (arith, Val-≤_out (Val-whole (floorᶠ q)) v (floor_whole q))) in
    omega (arith, ints)

pub floor_is : (q : Fraction) → GreatestNotAbove q (floorᶠ q)
floor_is q = record { not_above = floor_whole q; greatest = λ m h. floor_above m q h }

-- negation exchanges what is above 0 and what is below
flipped : (z : ℤ) → (up (neg_ℤ z) ≡ down z) × (down (neg_ℤ z) ≡ up z)
flipped z = omega (arith, ints)

-- (c - 1)·d < n ≤ c·d, for n / d rounded up to c
ceil_by : (n c : ℤ) (d : ℕ) → 0 < d → c ≡ neg_ℤ (shr_z (neg_ℤ n) d)
    → (up n + down c * d ≤ up c * d + down n) × (up c * d + down n < up n + down c * d + d)
ceil_by n c d h e =
    let f = rw ((flipped n).0, (flipped n).1) at (floor_by (neg_ℤ n) d h) in
    let s = flipped (shr_z (neg_ℤ n) d) in
    rw (e, s.0, s.1) (omega (arith, f.0, f.1))

pub ceil_is : (q : Fraction) → LeastNotBelow q (ceilᶠ q)
ceil_is q = record {
  not_below = ≤ᶠ_in q (whole (ceilᶠ q)) (omega (arith, by.0));
  least =
      λ m h. let l : up (ceilᶠ q) + down m < up m + down (ceilᶠ q) + 1 = lt_of_mul-lt-mul_right (den q)
      (omega (arith, ≤ᶠ_out h, by.1)) in omega (arith, ints);
}
  where
    by : (up q.num + down (ceilᶠ q) * den q ≤ up (ceilᶠ q) * den q + down q.num) ×
        (up (ceilᶠ q) * den q + down q.num < up q.num + down (ceilᶠ q) * den q + den q)
    by = ceil_by q.num (ceilᶠ q) (den q) (omega arith) refl

pub rounding_rules_lem : RoundingRules
rounding_rules_lem = record { down = floor_is; up = ceil_is; nearest = λ q. floor_is (q +ᶠ pos 1 ÷ 2) }
