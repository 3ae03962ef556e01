-- The arithmetic of fractions is that of the numbers that they stand for.
use Rattle.std.proofs.Common.{◌≡◌, ℕ, suc, ◌+◌, ◌-◌, ◌*◌, ◌<◌, ℤ, pos, ◌*ℤ◌, ap, mul-le-mul, arith}
use borrow.Author.Differences.{up, down}
use Rattle.engine.specs.Fraction.{Fraction, den, ◌÷◌, whole, ◌+ᶠ◌, ◌-ᶠ◌, ◌*ᶠ◌, ◌/ᶠ◌, ◌≈ᶠ◌}
use Rattle.engine.specs.Theorems.{FractionRules}
use Rattle.engine.specs.Orders.{≤ᶠ_refl, ≤ᶠ_trans, ≤ᶠ_total, whole-≤, whole-≤_out}
use Rattle.engine.specs.Terms.{Val, val, Val-whole, Val-times, Val-≤, Val-+, Val--}
use Rattle.engine.specs.Sums.{+ᶠ_both, whole_sum}

-- ---- by terms

-- n / d
Val-over : (n : ℤ) (d : ℕ) → 0 < d → Val (n ÷ d) (up n) (down n) d
Val-over n d h = record { same = rw e (omega arith) }
  where
    e : suc (d - 1) ≡ d
    e = omega arith

-- a fraction over a natural
Val-/ : (k : ℕ) → 0 < k → {p : Fraction} {a b d : ℕ} → Val p a b d → Val (p /ᶠ k) a b (d * k)
unfolding ◌/ᶠ◌
Val-/ k h {p} {a} {b} {d} i = record { same = rw e (go (up p.num) (down p.num) (den p) i.same) }
  where
    e : suc (suc p.less * k - 1) ≡ suc p.less * k
    e = omega arith

    go : (P N e : ℕ) → P * d + b * e ≡ a * e + N * d → P * (d * k) + b * (e * k) ≡ a * (e * k) + N * (d * k)
    go P N e h = omega (arith, ap (λ n. n * k) h)

-- ---- the rules

-- two fractions are the same number where their terms are
alike : {p q : Fraction} {a b d a' b' d' : ℕ} → 0 < d → 0 < d' → Val p a b d → Val q a' b' d'
    → a * d' + b' * d ≡ a' * d + b * d' → p ≈ᶠ q
alike h h' i j e = (Val-≤ h h' i j (omega (arith, e)), Val-≤ h' h j i (omega (arith, e)))

difference : (p q : Fraction) → p -ᶠ q +ᶠ q ≈ᶠ p
difference p q =
    alike (omega arith) (omega arith) (Val-+ (Val-- (val p) (val q)) (val q)) (val p)
    (go (up p.num) (down p.num) (den p) (up q.num) (down q.num) (den q))
  where
    go : (a b d m n f : ℕ)
        → ((a * f + n * d) * f + m * (d * f)) * d + b * (d * f * f)
        ≡ a * (d * f * f) + ((b * f + m * d) * f + n * (d * f)) * d
    go a b d m n f = omega arith

quotient : (n : ℤ) (d : ℕ) → 0 < d → n ÷ d *ᶠ whole (pos d) ≈ᶠ whole n
quotient n d h = alike h (omega arith) (Val-times d (Val-over n d h)) (Val-whole n) (omega arith)

quotient_of : (p : Fraction) (k : ℕ) → 0 < k → p /ᶠ k *ᶠ whole (pos k) ≈ᶠ p
quotient_of p k h =
    alike (mul-le-mul {n₁ = 1} {n₂ = den p} (omega arith) h) (omega arith) (Val-times k (Val-/ k h (val p))) (val p)
    (go (up p.num) (down p.num) (den p))
  where
    go : (a b d : ℕ) → a * k * d + b * (d * k) ≡ a * (d * k) + b * k * d
    go a b d = omega arith

whole_product : (a b : ℤ) → whole a *ᶠ whole b ≈ᶠ whole (a *ℤ b)
unfolding ◌*ᶠ◌
whole_product a b = (≤ᶠ_refl (whole (a *ℤ b)), ≤ᶠ_refl (whole (a *ℤ b)))

pub fraction_rules_lem : FractionRules
fraction_rules_lem = record {
  reflexive = ≤ᶠ_refl;
  transitive = λ p q r h k. ≤ᶠ_trans h k;
  total = ≤ᶠ_total;
  whole_up = whole-≤;
  whole_down = whole-≤_out;
  whole_sum = λ a b. ((whole_sum a b).1, (whole_sum a b).0);
  whole_product = whole_product;
  sum_keeps_order = λ p q r h. +ᶠ_both r h;
  difference = difference;
  quotient = quotient;
  quotient_of = quotient_of;
}
