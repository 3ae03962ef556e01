-- Sums of fractions, most of them with a whole number.
use Rattle.std.specs.Prelude.{◌≡◌, ℕ, ◌+◌, ◌*◌, ◌<◌, ◌≤◌, ℤ, pos, ◌+ℤ◌}
use Rattle.std.proofs.Common.{ap, mul-le-mul_right, add-mul, arith}
use borrow.Author.Differences.{ints, up, down}
use Rattle.engine.specs.Fraction.{Fraction, den, whole, ◌+ᶠ◌, ◌≤ᶠ◌, ◌≈ᶠ◌}
use Rattle.engine.specs.Coordinates.{Coordinate, Within, furthest, lowest, highest}
use Rattle.engine.specs.Orders.{≤ᶠ_out, ≤ᶠ_trans, whole-≤}
use Rattle.engine.specs.Terms.{Is, Is-Val, Val, val, Val-+, Val-same, Val-whole, Val-≤, Val-shift, shifted}

-- the terms of q + n, for a natural n, and of q + c, for an integer c
pub Val-add : (n : ℕ) {q : Fraction} {a b d : ℕ} → Val q a b d → Val (q +ᶠ whole (pos n)) (a + n * d) b d
Val-add n {a = a} {b} {d} i = Val-same (omega arith) (omega arith) (omega arith) (Val-+ i (Val-whole (pos n)))

pub Val-move : (c : ℤ) {q : Fraction} {a b d : ℕ} → Val q a b d → Val (q +ᶠ whole c) (up c * d + a) (down c * d + b) d
Val-move c {a = a} {b} {d} i = Val-same (omega arith) (omega arith) (omega arith) (Val-+ i (Val-whole c))

-- a / d - b / d does not pass itself with n added
more : (a b d n : ℕ) → a * d + b * d ≤ (a + n * d) * d + b * d
more a b d n = omega arith

-- p ≤ p + n
pub +ᶠ_up : (p : Fraction) (n : ℕ) → p ≤ᶠ p +ᶠ whole (pos n)
+ᶠ_up p n =
    Val-≤ (omega arith) (omega arith) (val p) (Val-add n (val p)) (more (up p.num) (down p.num) (den p) n)

-- p + m ≤ p + n
pub +ᶠ_more : (p : Fraction) (m n : ℕ) → m ≤ n → p +ᶠ whole (pos m) ≤ᶠ p +ᶠ whole (pos n)
+ᶠ_more p m n h =
    Val-≤ (omega arith) (omega arith) (Val-add m (val p)) (Val-add n (val p))
    (go (up p.num) (down p.num) (den p))
  where
    go : (a b d : ℕ) → (a + m * d) * d + b * d ≤ (a + n * d) * d + b * d
    go a b d = omega (arith, mul-le-mul_right (d * d) h)

-- p + r ≤ q + r
pub +ᶠ_both : (r : Fraction) {p q : Fraction} → p ≤ᶠ q → p +ᶠ r ≤ᶠ q +ᶠ r
+ᶠ_both r {p} {q} h =
    Val-≤ (omega arith) (omega arith) (Val-+ (val p) (val r)) (Val-+ (val q) (val r))
    (go (up p.num) (down p.num) (den p) (up q.num) (down q.num) (den q) (up r.num) (down r.num) (den r)
    (≤ᶠ_out h))
  where
    swap : (m d d' f : ℕ) → m * d * (d' * f) ≡ m * d' * (d * f)
    swap m d d' f = omega arith

    gain : (a b d a' b' d' f : ℕ) → a * d' + b' * d ≤ a' * d + b * d'
        → a * f * (d' * f) + b' * f * (d * f) ≤ a' * f * (d * f) + b * f * (d' * f)
    gain a b d a' b' d' f h = omega (arith, mul-le-mul_right (f * f) h)

    go : (a b d a' b' d' m n f : ℕ) → a * d' + b' * d ≤ a' * d + b * d'
        → (a * f + m * d) * (d' * f) + (b' * f + n * d') * (d * f)
        ≤ (a' * f + m * d') * (d * f) + (b * f + n * d) * (d' * f)
    go a b d a' b' d' m n f h =
        simp add-mul (omega (arith, swap m d d' f, swap n d d' f, gain a b d a' b' d' f h))

-- y + p ≤ y + q
pub +ᶠ_mono : (y : ℤ) {p q : Fraction} → p ≤ᶠ q → whole y +ᶠ p ≤ᶠ whole y +ᶠ q
+ᶠ_mono y {p} {q} h =
    Val-≤ (omega arith) (omega arith) (Val-shift y (val p)) (Val-shift y (val q))
    (shifted (up y) (down y) (up p.num) (down p.num) (den p) (up q.num) (down q.num) (den q) (≤ᶠ_out h))

-- r + n + c ≤ r + c + n
swapped : (r : Fraction) (n : ℕ) (c : ℤ) → r +ᶠ whole (pos n) +ᶠ whole c ≤ᶠ r +ᶠ whole c +ᶠ whole (pos n)
swapped r n c =
    Val-≤ (omega arith) (omega arith) (Val-move c (Val-add n (val r))) (Val-add n (Val-move c (val r)))
    (go (up r.num) (down r.num) (den r) n (up c) (down c))
  where
    go : (a b d n u w : ℕ) → (u * d + (a + n * d)) * d + (w * d + b) * d ≤ (u * d + a + n * d) * d + (w * d + b) * d
    go a b d n u w = omega arith

-- p ≤ q + n, moved by c
pub +ᶠ_moved : (c : ℤ) (n : ℕ) (p q : Fraction) → p ≤ᶠ q +ᶠ whole (pos n)
    → p +ᶠ whole c ≤ᶠ q +ᶠ whole c +ᶠ whole (pos n)
+ᶠ_moved c n p q h = ≤ᶠ_trans (+ᶠ_both (whole c) h) (swapped q n c)

-- r + n + m ≤ r + (m + n)
pub +ᶠ_twice : (r : Fraction) (m n : ℕ) → r +ᶠ whole (pos n) +ᶠ whole (pos m) ≤ᶠ r +ᶠ whole (pos (m + n))
+ᶠ_twice r m n =
    Val-≤ (omega arith) (omega arith) (Val-add m (Val-add n (val r))) (Val-add (m + n) (val r))
    (go (up r.num) (down r.num) (den r))
  where
    go : (a b d : ℕ) → (a + n * d + m * d) * d + b * d ≤ (a + (m + n) * d) * d + b * d
    go a b d = omega arith

-- p ≤ q + m and q ≤ r + n give p ≤ r + (m + n)
pub steps : (m n : ℕ) (p q r : Fraction) → p ≤ᶠ q +ᶠ whole (pos m) → q ≤ᶠ r +ᶠ whole (pos n)
    → p ≤ᶠ r +ᶠ whole (pos (m + n))
steps m n p q r h k = ≤ᶠ_trans h (≤ᶠ_trans (+ᶠ_both (whole (pos m)) k) (+ᶠ_twice r m n))

-- x + c as a fraction
pub whole_sum : (x c : ℤ) → whole (x +ℤ c) ≈ᶠ whole x +ᶠ whole c
whole_sum x c = (
  Val-≤ (omega arith) (omega arith) (Val-whole (x +ℤ c)) (Val-move c (Val-whole x)) (omega (arith, parts)),
  Val-≤ (omega arith) (omega arith) (Val-move c (Val-whole x)) (Val-whole (x +ℤ c)) (omega (arith, parts)),
)
  where
    parts : up (x +ℤ c) + (down x + down c) ≡ down (x +ℤ c) + (up x + up c)
    parts = omega (arith, ints)

-- y plus a quotient that is the whole number n
pub shift_whole : (y y' : ℤ) (n : ℕ) {w : Fraction} {F W : ℕ} → y' ≡ y +ℤ pos n → Is w F W → 0 < W → F ≡ n * W
    → whole y +ᶠ w ≈ᶠ whole y'
shift_whole y y' n {w} {F} {W} e i k f = (
  Val-≤ k (omega arith) (Val-shift y (Is-Val i)) (Val-whole y') (omega (arith, f, ap (λ m. m * W) moved)),
  Val-≤ (omega arith) k (Val-whole y') (Val-shift y (Is-Val i)) (omega (arith, f, ap (λ m. m * W) moved)),
)
  where
    moved : up y' + down y ≡ down y' + up y + n
    moved = omega (arith, ints, e)

-- two fractions within the coordinates are never further apart than 16383
pub apart : (p q : Fraction) (n : ℕ) → Within p → Within q → furthest ≤ n → p ≤ᶠ q +ᶠ whole (pos n)
apart p q n fp fq h =
    ≤ᶠ_trans fp.high (≤ᶠ_trans ends (≤ᶠ_trans (+ᶠ_both (whole (pos furthest)) fq.low) (+ᶠ_more q furthest n h)))
  where
    ends : whole highest ≤ᶠ whole lowest +ᶠ whole (pos furthest)
    ends = Val-≤ (omega arith) (omega arith) (Val-whole highest) (Val-add furthest (Val-whole lowest)) (omega arith)

-- a coordinate is a fraction within the coordinates
pub whole_within : (x : ℤ) → Coordinate x → Within (whole x)
whole_within x h = record { low = whole-≤ lowest x h.low; high = whole-≤ x highest h.high }
