-- The order of fractions and of whole numbers, and the tests for it.
use Rattle.std.specs.Prelude.{◌≡◌, ℕ, suc, ◌+◌, ◌*◌, ◌≤◌, Bool, true, false, T, ◌⊎◌, ℤ, ◌≤ℤ◌, int_le, refl}
use Rattle.std.proofs.Common.{sym, subst, ◌∙◌, inl, inr, mul-le-mul_right, le_of_mul-le-mul_right, arith}
use borrow.Author.Differences.{ints, up, down}
use Rattle.engine.specs.Fraction.{Fraction, den, whole, ◌≤ᶠ◌, ◌≈ᶠ◌, leᶠ, ltᶠ}

-- the cases of a test, with its equation
pub by_test : {P : Type 0} (t : Bool) → (t ≡ true → P) → (t ≡ false → P) → P
by_test true f g = f refl
by_test false f g = g refl

-- ---- the order

-- the order between fractions, in naturals
pub ≤ᶠ_out : {p q : Fraction} → p ≤ᶠ q
    → up p.num * den q + down q.num * den p ≤ up q.num * den p + down p.num * den q
≤ᶠ_out {p} {q} h = omega (arith, ints, h.cross)

pub ≤ᶠ_in : (p q : Fraction)
    → up p.num * den q + down q.num * den p ≤ up q.num * den p + down p.num * den q → p ≤ᶠ q
≤ᶠ_in p q h = record { cross = omega (arith, ints) }

pub ≤ᶠ_refl : (p : Fraction) → p ≤ᶠ p
≤ᶠ_refl p = ≤ᶠ_in p p (omega arith)

-- transitivity in naturals: each fraction is (a - b) / (d + 1)
crosses : (a b d a' b' d' a'' b'' d'' : ℕ) → a * suc d' + b' * suc d ≤ a' * suc d + b * suc d'
    → a' * suc d'' + b'' * suc d' ≤ a'' * suc d' + b' * suc d'' → a * suc d'' + b'' * suc d ≤ a'' * suc d + b * suc d''
crosses a b d a' b' d' a'' b'' d'' h k =
    le_of_mul-le-mul_right {k = suc d'} (omega (arith, mul-le-mul_right (suc d'') h, mul-le-mul_right (suc d) k))
    (omega arith)

pub ≤ᶠ_trans : {p q r : Fraction} → p ≤ᶠ q → q ≤ᶠ r → p ≤ᶠ r
≤ᶠ_trans {p} {q} {r} h k =
    ≤ᶠ_in p r
    (crosses (up p.num) (down p.num) p.less (up q.num) (down q.num) q.less (up r.num)
    (down r.num) r.less (≤ᶠ_out h) (≤ᶠ_out k))

-- the same number
pub ≈ᶠ_trans : {p q r : Fraction} → p ≈ᶠ q → q ≈ᶠ r → p ≈ᶠ r
≈ᶠ_trans h k = (≤ᶠ_trans h.0 k.0, ≤ᶠ_trans k.1 h.1)

pub ≈ᶠ_same : {p q : Fraction} → p ≡ q → p ≈ᶠ q
≈ᶠ_same {p} e = subst (λ r. p ≈ᶠ r) e (≤ᶠ_refl p, ≤ᶠ_refl p)

-- the order of whole numbers
pub whole-≤ : (a b : ℤ) → a ≤ℤ b → whole a ≤ᶠ whole b
whole-≤ a b h = ≤ᶠ_in (whole a) (whole b) (omega (arith, ints))

pub whole-≤_out : (a b : ℤ) → whole a ≤ᶠ whole b → a ≤ℤ b
whole-≤_out a b h = omega (arith, ints, ≤ᶠ_out h)

pub ≤ℤ_trans : {a b c : ℤ} → a ≤ℤ b → b ≤ℤ c → a ≤ℤ c
≤ℤ_trans {a} {b} {c} h k = omega (arith, ints)

pub ≤ℤ_antisym : {a b : ℤ} → a ≤ℤ b → b ≤ℤ a → a ≡ b
≤ℤ_antisym {a} {b} h k = omega (arith, ints)

-- ---- the tests

pub leᶠ_true : (p q : Fraction) → leᶠ p q ≡ true → p ≤ᶠ q
leᶠ_true p q e = record { cross = omega (arith, ints) }

pub leᶠ_false : (p q : Fraction) → leᶠ p q ≡ false → q ≤ᶠ p
leᶠ_false p q e = record { cross = omega (arith, ints) }

-- the test holds where the order does
holds : (t : Bool) → T t → t ≡ true
holds true h = refl
holds false h = absurd h

pub leᶠ_holds : (p q : Fraction) → p ≤ᶠ q → leᶠ p q ≡ true
leᶠ_holds p q h = holds (leᶠ p q) h.cross.le

pub ltᶠ_yes : (p q : Fraction) → ltᶠ p q ≡ true → p ≤ᶠ q
ltᶠ_yes p q e = record { cross = omega (arith, ints, e) }

pub ltᶠ_no : (p q : Fraction) → ltᶠ p q ≡ false → q ≤ᶠ p
ltᶠ_no p q e = record { cross = omega (arith, ints, e) }

pub ≤ᶠ_total : (p q : Fraction) → (p ≤ᶠ q) ⊎ (q ≤ᶠ p)
≤ᶠ_total p q = by_test (ltᶠ p q) (λ e. inl (ltᶠ_yes p q e)) (λ e. inr (ltᶠ_no p q e))

-- the tests of whole numbers
pub leZ_true : (a b : ℤ) → int_le a b ≡ true → a ≤ℤ b
leZ_true a b e = omega (arith, ints)

pub leZ_false : (a b : ℤ) → int_le a b ≡ false → b ≤ℤ a
leZ_false a b e = omega (arith, ints)

pub leZ_holds : (a b : ℤ) → a ≤ℤ b → int_le a b ≡ true
leZ_holds a b h = sym (omega (arith, ints))

-- a whole number is tested alike as a fraction
pub same_test : (a b : ℤ) → leᶠ (whole a) (whole b) ≡ int_le a b
same_test a b = by_test (int_le a b) (λ e. sym (omega (arith, ints)) ∙ sym e) (λ e. sym (omega (arith, ints)) ∙ sym e)
