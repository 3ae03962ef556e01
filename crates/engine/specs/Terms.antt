-- Fractions by their terms. What is shown of a fraction's terms does not depend on how the fraction is written.
use Rattle.std.specs.Prelude.{◌≡◌, ℕ, suc, ◌+◌, ◌-◌, ◌*◌, ◌<◌, ◌≤◌, ℤ, pos, ◌+ℤ◌, ◌-ℤ◌, ◌*ℤ◌, refl}
use Rattle.std.proofs.Common.{ap, ap₂, sym, ◌∙◌, mul-le-mul_right, le_of_mul-le-mul_right, mul-le-mul, add-mul, mul-one, one-mul, arith}
use Rattle.std.proofs.Math.Path.{subst₃}
use Rattle.std.proofs.Math.Nat.{eq_of_mul-eq-mul_left, le_dest}
use borrow.Author.Differences.{ints, up, down, product_is}
use Rattle.engine.specs.Fraction.{Fraction, den, ◌÷◌, whole, ◌+ᶠ◌, ◌-ᶠ◌, ◌*ᶠ◌, ◌/ᶠ◌, ◌≤ᶠ◌}
use Rattle.engine.specs.Orders.{≤ᶠ_in, ≤ᶠ_out}

-- a product of successors is no zero
pub den_mul : (a b : ℕ) → suc (suc a * suc b - 1) ≡ suc a * suc b
den_mul a b = omega arith

-- ---- a fraction that is not negative, as a quotient of naturals: q = a / b

pub record Is (q : Fraction) (a b : ℕ) : Type 0 where
  pub top : ℕ
  pub num_is : q.num ≡ pos top
  pub same : top * b ≡ a * den q

pub Is-whole : (n : ℕ) → Is (whole (pos n)) n 1
Is-whole n = record { top = n; num_is = refl; same = refl }

pub Is-over : (a b : ℕ) → 0 < b → Is (pos a ÷ b) a b
Is-over a b h = record { top = a; num_is = refl; same = rw e refl }
  where
    e : suc (b - 1) ≡ b
    e = omega arith

-- the same quotient by other terms
pub Is-as : {q : Fraction} {a b : ℕ} (c d : ℕ) → Is q a b → 0 < b → a * d ≡ c * b → Is q c d
Is-as {q} {a} {b} c d i h e = record { top = i.top; num_is = i.num_is; same = crossed_out }
  where
    crossed_out : i.top * d ≡ c * den q
    crossed_out =
        eq_of_mul-eq-mul_left b h (i.top * d) (c * den q)
        (omega (arith, ap (λ n. n * d) i.same, ap (λ n. n * den q) e))

pub Is-* : {p q : Fraction} {a b c d : ℕ} → Is p a b → Is q c d → Is (p *ᶠ q) (a * c) (b * d)
unfolding ◌*ᶠ◌
Is-* {p} {q} {a} {b} {c} {d} i j = record {
  top = i.top * j.top;
  num_is = ap₂ ◌*ℤ◌ i.num_is j.num_is;
  same = rw (den_mul p.less q.less) (omega (arith, ap₂ ◌*◌ i.same j.same));
}

pub Is-/ : {p : Fraction} {a b : ℕ} (k : ℕ) → 0 < k → Is p a b → Is (p /ᶠ k) a (b * k)
unfolding ◌/ᶠ◌
Is-/ {p} {a} {b} k h i = record {
  top = i.top;
  num_is = i.num_is;
  same = rw e (omega (arith, ap (λ n. n * k) i.same));
}
  where
    e : suc (suc p.less * k - 1) ≡ suc p.less * k
    e = omega arith

-- sums and differences over one denominator
pub Is-+ : {p q : Fraction} {a b c : ℕ} → Is p a b → Is q c b → Is (p +ᶠ q) (a + c) b
unfolding ◌+ᶠ◌
Is-+ {p} {q} {a} {b} {c} i j = record {
  top = i.top * den q + j.top * den p;
  num_is = ap₂ (λ m n. m *ℤ pos (den q) +ℤ n *ℤ pos (den p)) i.num_is j.num_is;
  same = rw (den_mul p.less q.less)
      (omega (arith, ap (λ n. n * den q) i.same, ap (λ n. n * den p) j.same));
}

pub Is-- : {p q : Fraction} {a b c : ℕ} → 0 < b → Is p (a + c) b → Is q c b → Is (p -ᶠ q) a b
unfolding ◌-ᶠ◌
Is-- {p} {q} {a} {b} {c} h i j = record {
  top = s.0;
  num_is = ap₂ (λ m n. m *ℤ pos (den q) -ℤ n *ℤ pos (den p)) i.num_is j.num_is ∙ minus;
  same = rw (den_mul p.less q.less) (omega (arith, is, js, ap (λ n. n * b) s.1));
}
  where
    is : i.top * den q * b ≡ (a + c) * den p * den q
    is = omega (arith, ap (λ n. n * den q) i.same)

    js : j.top * den p * b ≡ c * den q * den p
    js = omega (arith, ap (λ n. n * den p) j.same)

    s : (k : ℕ) × (j.top * den p + k ≡ i.top * den q)
    s = le_dest (le_of_mul-le-mul_right {k = b} (omega (arith, is, js)) h)

    minus : pos (i.top * den q) -ℤ pos (j.top * den p) ≡ pos s.0
    minus = omega (arith, ints, s.1)

-- ---- any fraction, as a difference over a natural: q = (a - b) / d

pub record Val (q : Fraction) (a b d : ℕ) : Type 0 where
  pub same : up q.num * d + b * den q ≡ a * den q + down q.num * d

-- every fraction by its own terms, and a whole number over 1
pub val : (q : Fraction) → Val q (up q.num) (down q.num) (den q)
val q = record { same = omega arith }

pub Val-whole : (z : ℤ) → Val (whole z) (up z) (down z) 1
Val-whole z = record { same = omega arith }

pub Is-Val : {q : Fraction} {a b : ℕ} → Is q a b → Val q a 0 b
Is-Val {q} {a} {b} i = record { same = rw i.num_is (omega (arith, i.same)) }

-- the same terms under other names
pub Val-same : {q : Fraction} {a b d a' b' d' : ℕ} → a ≡ a' → b ≡ b' → d ≡ d' → Val q a b d → Val q a' b' d'
Val-same {q} e f g i = subst₃ (Val q) e f g i

-- a fraction times a natural
pub Val-times : (k : ℕ) {p : Fraction} {a b d : ℕ} → Val p a b d → Val (p *ᶠ whole (pos k)) (a * k) (b * k) d
unfolding ◌*ᶠ◌
Val-times k {p} {a} {b} {d} i = record {
  same = rw ((parts p.num).0, (parts p.num).1, one)
      (go (up p.num) (down p.num) (den p) i.same);
}
  where
    parts : (z : ℤ) → (up (z *ℤ pos k) ≡ up z * k) × (down (z *ℤ pos k) ≡ down z * k)
    parts z = omega (arith, product_is z (pos k))

    one : suc (suc p.less * 1 - 1) ≡ suc p.less
    one = omega arith

    go : (P N e : ℕ) → P * d + b * e ≡ a * e + N * d → P * k * d + b * k * e ≡ a * k * e + N * k * d
    go P N e h = omega (arith, ap (λ n. n * k) h)

-- a sum's numerator, in naturals
num-+ : (p q : Fraction)
    → up (p +ᶠ q).num + (down p.num * den q + down q.num * den p)
    ≡ down (p +ᶠ q).num + (up p.num * den q + up q.num * den p)
unfolding ◌+ᶠ◌
num-+ p q = omega (arith, ints)

num-- : (p q : Fraction)
    → up (p -ᶠ q).num + (down p.num * den q + up q.num * den p)
    ≡ down (p -ᶠ q).num + (up p.num * den q + down q.num * den p)
unfolding ◌-ᶠ◌
num-- p q = omega (arith, ints)

den-+ : (p q : Fraction) → den (p +ᶠ q) ≡ den p * den q
unfolding ◌+ᶠ◌
den-+ p q = den_mul p.less q.less

den-- : (p q : Fraction) → den (p -ᶠ q) ≡ den p * den q
unfolding ◌-ᶠ◌
den-- p q = den_mul p.less q.less

-- The arithmetic of the laws below, over variables alone. `omega` multiplies out only so many products in one call, so
-- each law is first brought to terms that are the same atoms on both sides.
times : (P N e a b d e' d' : ℕ) → P * d + b * e ≡ a * e + N * d
    → P * e' * (d * d') + b * d' * (e * e') ≡ a * d' * (e * e') + N * e' * (d * d')
times P N e a b d e' d' h = omega (arith, ap (λ n. n * (e' * d')) h)

times' : (P N e a b d e' d' : ℕ) → P * d + b * e ≡ a * e + N * d
    → P * e' * (d' * d) + b * d' * (e' * e) ≡ a * d' * (e' * e) + N * e' * (d' * d)
times' P N e a b d e' d' h = omega (arith, ap (λ n. n * (e' * d')) h)

module _ (P N e a b d P' N' e' a' b' d' : ℕ) (i : P * d + b * e ≡ a * e + N * d)
    (j : P' * d' + b' * e' ≡ a' * e' + N' * d') where
  -- the sum of two such equations, over one denominator
  scaled : (P * e' + P' * e) * (d * d') + (b * d' + b' * d) * (e * e')
      ≡ (a * d' + a' * d) * (e * e') + (N * e' + N' * e) * (d * d')
  scaled = simp add-mul (omega (arith, times P N e a b d e' d' i, times' P' N' e' a' b' d' e d j))

  -- an order of the terms is the order of the fractions
  crossed : 0 < d → 0 < d' → a * d' + b' * d ≤ a' * d + b * d' → P * e' + N' * e ≤ P' * e + N * e'
  crossed hd hd' h =
      le_of_mul-le-mul_right {k = d * d'}
      (simp add-mul
      (omega (
        arith,
        times P N e a b d e' d' i,
        times' P' N' e' a' b' d' e d j,
        simp add-mul at (mul-le-mul_right (e * e') h),
      )))
      (mul-le-mul hd hd')

-- the same of the sum's own numerator U - W
sum_same : (P N e a b d P' N' e' a' b' d' U W : ℕ) → P * d + b * e ≡ a * e + N * d
    → P' * d' + b' * e' ≡ a' * e' + N' * d' → U + (N * e' + N' * e) ≡ W + (P * e' + P' * e)
    → U * (d * d') + (b * d' + b' * d) * (e * e') ≡ (a * d' + a' * d) * (e * e') + W * (d * d')
sum_same P N e a b d P' N' e' a' b' d' U W i j n =
    omega (arith, scaled P N e a b d P' N' e' a' b' d' i j, ap (λ n. n * (d * d')) n)

-- sums and differences by their terms
pub Val-+ : {p q : Fraction} {a b d a' b' d' : ℕ} → Val p a b d → Val q a' b' d'
    → Val (p +ᶠ q) (a * d' + a' * d) (b * d' + b' * d) (d * d')
Val-+ {p} {q} {a} {b} {d} {a'} {b'} {d'} i j = record {
  same = rw (den-+ p q)
      (sum_same (up p.num) (down p.num) (den p) a b d (up q.num) (down q.num) (den q) a' b' d'
      (up (p +ᶠ q).num) (down (p +ᶠ q).num) i.same j.same (num-+ p q));
}

pub Val-- : {p q : Fraction} {a b d a' b' d' : ℕ} → Val p a b d → Val q a' b' d'
    → Val (p -ᶠ q) (a * d' + b' * d) (b * d' + a' * d) (d * d')
Val-- {p} {q} {a} {b} {d} {a'} {b'} {d'} i j = record {
  same = rw (den-- p q)
      (sum_same (up p.num) (down p.num) (den p) a b d (down q.num) (up q.num) (den q) b' a' d'
      (up (p -ᶠ q).num) (down (p -ᶠ q).num) i.same (omega (arith, j.same)) (num-- p q));
}

-- the order between two such fractions
pub Val-≤ : {p q : Fraction} {a b d a' b' d' : ℕ} → 0 < d → 0 < d' → Val p a b d → Val q a' b' d'
    → a * d' + b' * d ≤ a' * d + b * d' → p ≤ᶠ q
Val-≤ {p} {q} {a} {b} {d} {a'} {b'} {d'} hd hd' i j h =
    ≤ᶠ_in p q
    (crossed (up p.num) (down p.num) (den p) a b d (up q.num) (down q.num) (den q) a' b' d' i.same
    j.same hd hd' h)

pub Val-≤_out : {p q : Fraction} {a b d a' b' d' : ℕ} → Val p a b d → Val q a' b' d' → p ≤ᶠ q
    → a * d' + b' * d ≤ a' * d + b * d'
Val-≤_out {p} {q} {a} {b} {d} {a'} {b'} {d'} i j h =
    crossed a b d (up p.num) (down p.num) (den p) a' b' d' (up q.num) (down q.num) (den q)
    (back (up p.num) (down p.num) (den p) a b d i.same)
    (back (up q.num) (down q.num) (den q) a' b' d' j.same) (omega arith) (omega arith) (≤ᶠ_out h)
  where
    back : (P N e a b d : ℕ) → P * d + b * e ≡ a * e + N * d → a * e + N * d ≡ P * d + b * e
    back P N e a b d h = sym h

-- the order of two quotients
pub Is-≤ : {p q : Fraction} {a b c d : ℕ} → 0 < b → 0 < d → Is p a b → Is q c d → a * d ≤ c * b → p ≤ᶠ q
Is-≤ hb hd i j h = Val-≤ hb hd (Is-Val i) (Is-Val j) (omega arith)

-- a common shift by K - L on both sides
pub shifted : (K L A B G A' B' G' : ℕ) → A * G' + B' * G ≤ A' * G + B * G'
    → (K * G + A) * G' + (L * G' + B') * G ≤ (K * G' + A') * G + (L * G + B) * G'
shifted K L A B G A' B' G' h = omega arith

-- the sum of a whole number and a fraction
pub Val-shift : (y : ℤ) {p : Fraction} {a b d : ℕ} → Val p a b d
    → Val (whole y +ᶠ p) (up y * d + a) (down y * d + b) d
Val-shift y {p} {a} {b} {d} i = record { same = go (Val-+ (Val-whole y) i).same }
  where
    go : up (whole y +ᶠ p).num * (1 * d) + (down y * d + b * 1) * den (whole y +ᶠ p)
        ≡ (up y * d + a * 1) * den (whole y +ᶠ p) + down (whole y +ᶠ p).num * (1 * d)
        → up (whole y +ᶠ p).num * d + (down y * d + b) * den (whole y +ᶠ p)
        ≡ (up y * d + a) * den (whole y +ᶠ p) + down (whole y +ᶠ p).num * d
    go h = simp (mul-one, one-mul) at h
