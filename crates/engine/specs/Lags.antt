-- The rise rule by monotonicity: where the lag S × q - e does not fall, e rises by at most S for each unit of q.
use Rattle.std.specs.Prelude.{◌≡◌, ℕ, ◌+◌, ◌*◌, ◌<◌, ◌≤◌, pos, refl}
use Rattle.std.proofs.Common.{mul-le-mul_right, le_of_mul-le-mul_right, mul-le-mul, mul_comm, mul-add, add-mul, arith}
use borrow.Author.Differences.{up, down}
use Rattle.engine.specs.Fraction.{Fraction, den, whole, ◌+ᶠ◌, ◌-ᶠ◌, ◌*ᶠ◌, ◌≤ᶠ◌}
use Rattle.engine.specs.Orders.{≤ᶠ_out, ≤ᶠ_trans}
use Rattle.engine.specs.Terms.{Val, val, Val-same, Val-times, Val--, Val-≤, Val-≤_out}
use Rattle.engine.specs.Sums.{Val-add}

-- S times a fraction, less another
unfoldable pub lag : ℕ → Fraction → Fraction → Fraction
lag S q e = q *ᶠ whole (pos S) -ᶠ e

-- the lag by its terms
pub Val-lag : (S : ℕ) {q e : Fraction} {a b d a' b' d' : ℕ} → Val q a b d → Val e a' b' d'
    → Val (lag S q e) (S * a * d' + b' * d) (S * b * d' + a' * d) (d * d')
unfolding lag
Val-lag S {a = a} {b} i j = Val-- (Val-same (mul_comm a S) (mul_comm b S) refl (Val-times S i)) j

-- the lag falls as the value rises
pub lag_anti : (S : ℕ) (q : Fraction) {e e' : Fraction} → e ≤ᶠ e' → lag S q e' ≤ᶠ lag S q e
lag_anti S q {e} {e'} h =
    Val-≤ (omega arith) (omega arith) (Val-lag S (val q) (val e')) (Val-lag S (val q) (val e))
    (go S (up q.num) (down q.num) (den q) (up e.num) (down e.num) (den e) (up e'.num) (down e'.num)
    (den e') (≤ᶠ_out h))
  where
    expand : (S a d f f' : ℕ) → (S * a * f') * (d * f) ≡ S * a * f * (d * f')
    expand S a d f f' = omega arith

    gain : (d m n f m' n' f' : ℕ) → m * f' + n' * f ≤ m' * f + n * f'
        → (n' * d) * (d * f) + (m * d) * (d * f') ≤ (n * d) * (d * f') + (m' * d) * (d * f)
    gain d m n f m' n' f' h = omega (arith, mul-le-mul_right (d * d) h)

    go : (S a b d m n f m' n' f' : ℕ) → m * f' + n' * f ≤ m' * f + n * f'
        → (S * a * f' + n' * d) * (d * f) + (S * b * f + m * d) * (d * f')
        ≤ (S * a * f + n * d) * (d * f') + (S * b * f' + m' * d) * (d * f)
    go S a b d m n f m' n' f' h =
        simp add-mul (omega (arith, expand S a d f f', expand S b d f f', gain d m n f m' n' f' h))

-- the lag grows with the argument
pub lag_mono : (S : ℕ) {p q : Fraction} (e : Fraction) → p ≤ᶠ q → lag S p e ≤ᶠ lag S q e
lag_mono S {p} {q} e h =
    Val-≤ (omega arith) (omega arith) (Val-lag S (val p) (val e)) (Val-lag S (val q) (val e))
    (go S (up p.num) (down p.num) (den p) (up q.num) (down q.num) (den q) (up e.num) (down e.num)
    (den e) (≤ᶠ_out h))
  where
    swap : (m d d' f : ℕ) → m * d * (d' * f) ≡ m * d' * (d * f)
    swap m d d' f = omega arith

    gain : (S a b d a' b' d' f : ℕ) → a * d' + b' * d ≤ a' * d + b * d'
        → S * a * f * (d' * f) + S * b' * f * (d * f) ≤ S * a' * f * (d * f) + S * b * f * (d' * f)
    gain S a b d a' b' d' f h = omega (arith, mul-le-mul_right (S * f * f) h)

    go : (S a b d a' b' d' m n f : ℕ) → a * d' + b' * d ≤ a' * d + b * d'
        → (S * a * f + n * d) * (d' * f) + (S * b' * f + m * d') * (d * f)
        ≤ (S * a' * f + n * d') * (d * f) + (S * b * f + m * d) * (d' * f)
    go S a b d a' b' d' m n f h =
        simp add-mul (omega (arith, swap n d d' f, swap m d d' f, gain S a b d a' b' d' f h))

-- the arithmetic of the rise, with each product by itself
turn : (m d g : ℕ) → m * g * (d * d) ≡ m * d * (d * g)
turn m d g = omega arith

turn' : (S a d g g' : ℕ) → S * a * g * (d * g') ≡ S * a * g' * (d * g)
turn' S a d g g' = omega arith

turn'' : (S n d g g' : ℕ) → S * n * g * g' * (d * d) ≡ S * (n * d) * g' * (d * g)
turn'' S n d g g' = omega arith

rise_go : (S n a b d m r g m' r' g' : ℕ) → 0 < d
    → (S * a * g + r * d) * (d * g') + (S * b * g' + m' * d) * (d * g)
    ≤ (S * (a + n * d) * g' + r' * d) * (d * g) + (S * b * g + m * d) * (d * g')
    → m' * g + r * g' ≤ (m + S * n * g) * g' + r' * g
rise_go S n a b d m r g m' r' g' p h =
    le_of_mul-le-mul_right {k = d * d}
    (simp add-mul
    (omega (
      arith,
      simp (mul-add, add-mul) at h,
      turn m' d g,
      turn r d g',
      turn m d g',
      turn'' S n d g g',
      turn r' d g,
      turn' S a d g g',
      turn' S b d g g',
    )))
    (mul-le-mul p p)

-- a lag that does not fall bounds the rise
pub rise_out : (S n : ℕ) (p q e f : Fraction) → lag S p e ≤ᶠ lag S q f → q ≤ᶠ p +ᶠ whole (pos n)
    → f ≤ᶠ e +ᶠ whole (pos (S * n))
rise_out S n p q e f h k =
    Val-≤ (omega arith) (omega arith) (val f) (Val-add (S * n) (val e))
    (rise_go S n (up p.num) (down p.num) (den p) (up e.num) (down e.num) (den e) (up f.num)
    (down f.num) (den f) (omega arith)
    (Val-≤_out (Val-lag S (val p) (val e)) (Val-lag S (Val-add n (val p)) (val f)) (≤ᶠ_trans h (lag_mono S f k))))
