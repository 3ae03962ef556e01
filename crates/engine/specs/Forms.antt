-- A cubic piece over the natural numbers, in Bernstein form: with u + v = h its numerator is A·u·v² + C·u²·v + D·u³,
-- where A and C are at most 3D. A step by e from u, with w left to the end, goes from (u, w + e) to (u + e, w).
use Rattle.std.specs.Prelude.{◌≡◌, ℕ, ◌+◌, ◌*◌, ◌≤◌, ◌⊎◌}
use Rattle.std.proofs.Common.{inl, inr, mul-le-mul_left, mul-le-mul_right, arith}
use Rattle.std.proofs.Math.Nat.{le_dest}
use Rattle.std.proofs.Math.Decide.{dec_le}

-- the numerator
unfoldable pub form : (A C D u v : ℕ) → ℕ
form A C D u v = A * (u * v * v) + C * (u * u * v) + D * (u * u * u)

-- of two numbers one is the other and something more
gap : (a b : ℕ) → ((k : ℕ) × (a + k ≡ b)) ⊎ ((k : ℕ) × (b + k ≡ a))
gap a b = elim (dec_le a b) [ yes h ↦ inl (le_dest h) | no n ↦ inr (le_dest (omega arith)) ]

-- 2ab ≤ a² + b²
twice_product : (a b : ℕ) → 2 * (a * b) ≤ a * a + b * b
twice_product a b =
    elim (gap a b) [ inl g ↦ apart a g.0 b g.1 | inr g ↦ omega (arith, apart b g.0 a g.1) ]
  where
    apart : (a k b : ℕ) → a + k ≡ b → 2 * (a * b) ≤ a * a + b * b
    apart a k b e = rw (← e) (omega arith)

-- how a coefficient A of at most T weighs a difference p - q: not below 0, or not below what T makes of it
abbrev Weighed : (A T p q : ℕ) → Type 0
Weighed A T p q = (A * q ≤ A * p) ⊎ (A * q + T * p ≤ A * p + T * q)

weigh : (A T p q : ℕ) → A ≤ T → Weighed A T p q
weigh A T p q h = elim (gap q p) [ inl g ↦ inl (more g.0 g.1) | inr g ↦ inr (less g.0 g.1) ]
  where
    more : (k : ℕ) → q + k ≡ p → A * q ≤ A * p
    more k e = rw (← e) (omega arith)

    less : (k : ℕ) → p + k ≡ q → A * q + T * p ≤ A * p + T * q
    less k e = rw (← e) (omega (arith, mul-le-mul_right k h))

-- the step of the numerator, as what it gains and what it loses
step_is : (A C D u e w : ℕ)
    → form A C D (u + e) w + A * (e * u * (2 * w + e)) + C * (e * u * u)
    ≡ form A C D u (w + e) + A * (e * w * w) + C * (e * w * (2 * u + e)) + D * (e * (3 * u * u + 3 * u * e + e * e))
unfolding form
step_is A C D u e w = omega arith

-- the numerator does not fall
form_grows : (A C D u e w : ℕ) → A ≤ 3 * D → C ≤ 3 * D → form A C D u (w + e) ≤ form A C D (u + e) w
form_grows A C D u e w a c =
    by (weigh A (3 * D) (e * w * w) (e * u * (2 * w + e)) a) (weigh C (3 * D) (e * w * (2 * u + e)) (e * u * u) c)
  where
    by : Weighed A (3 * D) (e * w * w) (e * u * (2 * w + e)) → Weighed C (3 * D) (e * w * (2 * u + e)) (e * u * u)
        → form A C D u (w + e) ≤ form A C D (u + e) w
    by (inl f) (inl g) = omega (arith, step_is A C D u e w)
    by (inl f) (inr g) = omega (arith, step_is A C D u e w)
    by (inr f) (inl g) = omega (arith, step_is A C D u e w, mul-le-mul_left (3 * (D * e)) (twice_product u w))
    by (inr f) (inr g) = omega (arith, step_is A C D u e w)

-- and it rises by at most three secants: by at most 3D·h²·e, with h = u + e + w
form_rises : (A C D u e w : ℕ) → A ≤ 3 * D → C ≤ 3 * D
    → form A C D (u + e) w ≤ form A C D u (w + e) + 3 * D * ((u + e + w) * (u + e + w) * e)
form_rises A C D u e w a c =
    by (weigh A (3 * D) (e * u * (2 * w + e)) (e * w * w) a) (weigh C (3 * D) (e * u * u) (e * w * (2 * u + e)) c)
  where
    by : Weighed A (3 * D) (e * u * (2 * w + e)) (e * w * w) → Weighed C (3 * D) (e * u * u) (e * w * (2 * u + e))
        → form A C D (u + e) w ≤ form A C D u (w + e) + 3 * D * ((u + e + w) * (u + e + w) * e)
    by (inl f) (inl g) = omega (arith, step_is A C D u e w)
    by (inl f) (inr g) = omega (arith, step_is A C D u e w)
    by (inr f) (inl g) = omega (arith, step_is A C D u e w)
    by (inr f) (inr g) = omega (arith, step_is A C D u e w)

-- the same of two places in one piece: u ≤ u' and u + v = u' + v'
module _ (A C D u v u' v' : ℕ) (a : A ≤ 3 * D) (c : C ≤ 3 * D) (l : u ≤ u') (s : u + v ≡ u' + v') where
  pub form_mono : form A C D u v ≤ form A C D u' v'
  form_mono = at (le_dest l)
    where
      at : (e : ℕ) × (u + e ≡ u') → form A C D u v ≤ form A C D u' v'
      at g =
          let p : u + g.0 ≡ u' = g.1 in
          let q : v' + g.0 ≡ v = omega arith in
          rw (← p, ← q) (form_grows A C D u g.0 v' a c)

  pub form_slow : form A C D u' v' + 3 * D * ((u + v) * (u + v) * u) ≤ form A C D u v + 3 * D * ((u + v) * (u + v) * u')
  form_slow = at (le_dest l)
    where
      at : (e : ℕ) × (u + e ≡ u')
          → form A C D u' v' + 3 * D * ((u + v) * (u + v) * u) ≤ form A C D u v + 3 * D * ((u + v) * (u + v) * u')
      at g =
          let p : u + g.0 ≡ u' = g.1 in
          let q : v' + g.0 ≡ v = omega arith in
          rw (← p, ← q) (omega (arith, form_rises A C D u g.0 v' a c))

-- it is homogeneous of degree 3
pub form_scale : (A C D u v k : ℕ) → form A C D (u * k) (v * k) ≡ form A C D u v * (k * k * k)
unfolding form
form_scale A C D u v k = omega arith

-- at the two ends
pub form_start : (A C D v : ℕ) → form A C D 0 v ≡ 0
unfolding form
form_start A C D v = omega arith

pub form_end : (A C D u : ℕ) → form A C D u 0 ≡ D * (u * u * u)
unfolding form
form_end A C D u = omega arith

-- u·v² is at most a quarter of h³
pub quarter : (u v : ℕ) → 4 * (u * v * v) ≤ (u + v) * (u + v) * (u + v)
quarter u v = omega (arith, mul-le-mul_right v (twice_product u v))
