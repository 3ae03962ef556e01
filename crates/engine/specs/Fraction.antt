-- Exact fractions: a whole number over a positive whole number, with their order, arithmetic and rounding.
-- The denominator is stored less one, so that every value has a positive denominator and no definition carries a proof.
-- One number has many fractions, as 1/2 and 2/4; the order treats them alike.
use Rattle.std.specs.Prelude.{ℕ, suc, ◌-◌, ◌*◌, Bool, ℤ, pos, ◌+ℤ◌, ◌-ℤ◌, ◌*ℤ◌, neg_ℤ, ◌≤ℤ◌, int_le, int_lt}
use Rattle.std.specs.Int.Signed.{shr_z}

pub record Fraction : Type 0 where
  -- the numerator
  pub num : ℤ
  -- the denominator, less one
  pub less : ℕ

-- the denominator
abbrev pub den : Fraction → ℕ
den q = suc q.less

-- n / d, for d at least 1
infix 8 ◌÷◌
abbrev pub ◌÷◌ : ℤ → ℕ → Fraction
n ÷ d = record { num = n; less = d - 1 }

-- a whole number as a fraction
abbrev pub whole : ℤ → Fraction
whole n = record { num = n; less = 0 }

-- ---- arithmetic

infixl 6 ◌+ᶠ◌
unfoldable pub ◌+ᶠ◌ : Fraction → Fraction → Fraction
p +ᶠ q = (p.num *ℤ pos (den q) +ℤ q.num *ℤ pos (den p)) ÷ (den p * den q)

infixl 6 ◌-ᶠ◌
unfoldable pub ◌-ᶠ◌ : Fraction → Fraction → Fraction
p -ᶠ q = (p.num *ℤ pos (den q) -ℤ q.num *ℤ pos (den p)) ÷ (den p * den q)

infixl 7 ◌*ᶠ◌
unfoldable pub ◌*ᶠ◌ : Fraction → Fraction → Fraction
p *ᶠ q = (p.num *ℤ q.num) ÷ (den p * den q)

-- divided by a whole number k of at least 1
infixl 7 ◌/ᶠ◌
unfoldable pub ◌/ᶠ◌ : Fraction → ℕ → Fraction
p /ᶠ k = p.num ÷ (den p * k)

-- ---- order

-- p ≤ q, by cross-multiplication
infix 5 ◌≤ᶠ◌
pub record ◌≤ᶠ◌ (p q : Fraction) : Type 0 where
  pub cross : (p.num *ℤ pos (den q)) ≤ℤ (q.num *ℤ pos (den p))

-- p and q are the same number
infix 5 ◌≈ᶠ◌
abbrev pub ◌≈ᶠ◌ : Fraction → Fraction → Type 0
p ≈ᶠ q = (p ≤ᶠ q) × (q ≤ᶠ p)

-- the tests for p ≤ q and p < q
abbrev pub leᶠ : Fraction → Fraction → Bool
leᶠ p q = int_le (p.num *ℤ pos (den q)) (q.num *ℤ pos (den p))

abbrev pub ltᶠ : Fraction → Fraction → Bool
ltᶠ p q = int_lt (p.num *ℤ pos (den q)) (q.num *ℤ pos (den p))

-- ---- rounding

-- down: the greatest whole number not above q (`shr_z n d` is n / d rounded down)
abbrev pub floorᶠ : Fraction → ℤ
floorᶠ q = shr_z q.num (den q)

-- up: the least whole number not below q
abbrev pub ceilᶠ : Fraction → ℤ
ceilᶠ q = neg_ℤ (shr_z (neg_ℤ q.num) (den q))

-- to nearest: the greatest whole number not above q + 1/2
abbrev pub roundᶠ : Fraction → ℤ
roundᶠ q = floorᶠ (q +ᶠ pos 1 ÷ 2)

-- what the words say: n is the greatest whole number not above q, the least not below q
pub record GreatestNotAbove (q : Fraction) (n : ℤ) : Type 0 where
  pub not_above : whole n ≤ᶠ q
  pub greatest : (m : ℤ) → whole m ≤ᶠ q → m ≤ℤ n

pub record LeastNotBelow (q : Fraction) (n : ℤ) : Type 0 where
  pub not_below : q ≤ᶠ whole n
  pub least : (m : ℤ) → q ≤ᶠ whole m → n ≤ℤ m
